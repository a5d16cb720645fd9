-- The first l lanes are added, and the others are as they were.
use Rattle.std.proofs.Common.{get_or}
use Rattle.std.specs.Float.{nan, binary32}
use Rattle.std.specs.Float.Ieee.{add}
use Rattle.lists.specs.Front.{AtFront}
use Rattle.lists.specs.Tab.{tab}
use Rattle.board.proofs.values.add_row.Given as goal

abbrev pub invariant-loop-l : goal.invariant-loop-l
invariant-loop-l v = AtFront (tab v.l (λ m. add binary32 (get_or v.initial.sums m nan) (get_or v.row m nan))) v.initial.sums v.sums
