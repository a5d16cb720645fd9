use Rattle.std.proofs.Common.{rules, arith}
use Rattle.narrow.proofs.Block.{run_more}
use Rattle.narrow.proofs.Blocks.row.Goals as goal

pub loop-j-preserved : goal.loop-j-preserved
loop-j-preserved c = (search rules, run_more _ c.loop-j.j c.min-m.result c.loop-j.invariant.1 c.group.ensures (omega arith))

pub returns-2 : goal.returns-2
returns-2 c = run_more _ c.loop-j.j c.min-m.result c.loop-j.invariant.1 c.group.ensures (omega arith)
