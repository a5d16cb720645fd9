-- The cells passed stand at the front.
use Rattle.lists.specs.Front.{AtFront}
use Rattle.lists.specs.Tab.{tab}
use Rattle.lists.specs.Turn.{in_turn}
use Rattle.cells.proofs.Cells.{nth_cell}
use Rattle.cells.proofs.copy_cells.Given as goal

abbrev pub invariant-loop-n : goal.invariant-loop-n
invariant-loop-n l = AtFront (in_turn (tab l.n (nth_cell l.b l.planes l.size))) l.initial.out l.out
