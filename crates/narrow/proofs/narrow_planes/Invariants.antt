-- What the first r rows leave.
use Rattle.narrow.proofs.Rows.{Narrowing}
use Rattle.narrow.proofs.narrow_planes.Given as goal

abbrev pub invariant-loop-r : goal.invariant-loop-r
invariant-loop-r l = Narrowing l.factor.value l.height l.width l.r l.initial.planes l.planes l.initial.out l.out
