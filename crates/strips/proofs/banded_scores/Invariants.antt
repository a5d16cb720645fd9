use Rattle.std.proofs.Common.{length, ◌≤◌}
use Rattle.lists.specs.Front.{AtFront}
use Rattle.lists.specs.Picture.{points}
use Rattle.lanes.specs.Inner.{swept_scores}
use Rattle.strips.proofs.banded_scores.Given as goal

-- the scores before i stand at the front
abbrev pub invariant-loop-i : goal.invariant-loop-i
invariant-loop-i l =
    (l.i ≤ length l.initial.out)
    × AtFront (swept_scores (points 1 l.p.across l.p.edges.now) l.p.from l.p.to l.r l.i) l.initial.out l.out
