use Rattle.std.proofs.Common.{rules, arith}
use Rattle.narrow.proofs.Block.{lists_plain}
use Rattle.narrow.proofs.Blocks.group.Goals as goal

pub medians-requires-clause-plain : goal.medians-requires-clause-plain
medians-requires-clause-plain c =
    lists_plain (search rules) (search rules) c.requires.points_in c.gather.ensures (grind arith) c.args.out.now (omega arith)
