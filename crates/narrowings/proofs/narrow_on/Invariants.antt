-- The loop from the start is the loop from here, and the look is one at the screen as it is. The height falls.
use Rattle.narrowings.proofs.Turns.{Here}
use Rattle.narrowings.proofs.narrow_on.Given as goal

abbrev pub invariant-loop-factor : goal.invariant-loop-factor
invariant-loop-factor l = Here l.factor.value l.fn.start.height l.fn.start.width l.fn.planes l.last l.planes l.scratch

abbrev pub decreases-loop-factor : goal.decreases-loop-factor
decreases-loop-factor l = l.last.height
