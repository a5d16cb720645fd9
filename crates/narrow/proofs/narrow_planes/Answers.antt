use Rattle.std.proofs.Common.{arith}
use Rattle.narrow.proofs.Rows.{narrowing_none, all_rows, all_cleared}
use Rattle.narrow.proofs.narrow_planes.Goals as goal

pub loop-r-init : goal.loop-r-init
loop-r-init c = narrowing_none c.requires.0 c.type_inv.planes

pub returns-clause-front : goal.returns-clause-front
returns-clause-front c = all_rows c.loop-r.invariant (omega arith)

pub returns-clause-cleared : goal.returns-clause-cleared
returns-clause-cleared c = all_cleared c.loop-r.invariant (omega arith) c.clear_front-2.ensures
