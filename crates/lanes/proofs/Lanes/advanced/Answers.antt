use Rattle.std.proofs.Common.{◌+◌}
use Rattle.lanes.proofs.States.{below_more}
use Rattle.lanes.proofs.Lanes.advanced.Goals as goal

pub returns : goal.returns
returns c n cost low h =
    c.sideways.ensures (n + 1) _ (below_more _ _ _ n cost low) (c.with_points.ensures n cost h)
