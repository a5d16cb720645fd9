-- The skips from 1 on end as those from here on.
use Rattle.std.proofs.Common.{◌≡◌, ◌-◌}
use Rattle.bounds.specs.Scan.{skips}
use Rattle.bounds.specs.Inner.{seen, low, high}
use Rattle.bounds.proofs.View.skip_from.Given as goal

abbrev pub invariant-loop-skip : goal.invariant-loop-skip
invariant-loop-skip g l =
    let from = skips (seen l.self.layout (g.P.Points.bytes l.self.points)) (low l.self.layout) (high l.self.layout) l.m in
    from 1 3 ≡ from l.skip (4 - l.skip)
