-- The rows passed stand at the front.
use Rattle.lists.specs.Front.{AtFront}
use Rattle.lists.specs.Tab.{grid}
use Rattle.std.proofs.Common.{length}
use Rattle.sample.specs.Inner.{plane_value}
use Rattle.sample.proofs.copy_plane.Given as goal

abbrev pub invariant-loop-i : goal.invariant-loop-i
invariant-loop-i l =
    AtFront (grid l.i (length l.columns) (plane_value l.plane l.width l.rows l.columns)) l.initial.out l.out
