-- The values at the columns passed stand at the front.
use Rattle.lists.specs.Front.{AtFront}
use Rattle.lists.specs.Tab.{tab}
use Rattle.sample.specs.Inner.{row_value}
use Rattle.sample.proofs.copy_row.Given as goal

abbrev pub invariant-loop-j : goal.invariant-loop-j
invariant-loop-j l = AtFront (tab l.j (row_value l.row l.columns)) l.initial.out l.out
