-- The planes passed stand at the front.
use Prim.Native.Nat.{◌*◌}
use Rattle.lists.specs.Front.{AtFront}
use Rattle.lists.specs.Tab.{grid}
use Rattle.sample.proofs.Cells.{cell_plane}
use Rattle.sample.proofs.copy_cell.Given as goal

abbrev pub invariant-loop-k : goal.invariant-loop-k
invariant-loop-k l = AtFront (grid l.k (l.size * l.size) (cell_plane l.b l.planes l.x l.y l.size)) l.initial.out l.out
