-- The scan from the start stops where the scan from here does, with moves enough left. The distance falls.
use Rattle.std.proofs.Common.{◌<◌}
use Rattle.bounds.specs.Inner.{seen, low, high}
use Rattle.bounds.proofs.Scans.{Reached}
use Rattle.bounds.proofs.View.bound.Given as goal

abbrev pub invariant-loop-next : goal.invariant-loop-next
invariant-loop-next g l =
    let at = seen l.self.layout (g.P.Points.bytes l.self.points) in record {
      distance_in : l.at.distance < l.self.layout.along;
      across_in : l.at.across < l.self.layout.across;
      reached : Reached at (low l.self.layout) (high l.self.layout) l.initial.at.distance l.initial.at.across l.at.distance l.at.across;
    }

abbrev pub decreases-loop-next : goal.decreases-loop-next
decreases-loop-next g l = l.at.distance
