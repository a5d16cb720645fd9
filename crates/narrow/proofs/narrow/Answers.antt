use Rattle.narrow.proofs.Rows.{copied}
use Rattle.narrow.proofs.narrow.Goals as goal

pub returns-clause-planes_after : goal.returns-clause-planes_after
returns-clause-planes_after c =
    copied c.args.factor.in_range c.requires.0 c.narrow_planes.ensures.front c.narrow_planes.ensures.cleared c.copy_front.ensures
