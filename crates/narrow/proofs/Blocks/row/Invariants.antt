-- The points before j are there.
use Rattle.std.proofs.Common.{◌≤◌}
use Rattle.lists.specs.Front.{AtFront}
use Rattle.lists.specs.Tab.{tab}
use Rattle.narrow.specs.Blocks.{points}
use Rattle.narrow.proofs.Blocks.row.Given as goal

abbrev pub invariant-loop-j : goal.invariant-loop-j
invariant-loop-j l = let s = points l.self in (l.j ≤ s.width) × AtFront (tab l.j (s.px l.k l.i)) l.initial.out l.out
