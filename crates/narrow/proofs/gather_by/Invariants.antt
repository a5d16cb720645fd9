-- The blocks are gathered value by value, row by row and in a row point by point.
use Rattle.std.proofs.Common.{◌+◌, ◌*◌}
use Rattle.narrow.proofs.Gathering.{Gathering}
use Rattle.narrow.proofs.gather_by.Given as goal

abbrev pub invariant-loop-u : goal.invariant-loop-u
invariant-loop-u g l = Gathering (l.u * l.m * g.row.F) g.row.F l.m l.width l.at l.planes l.x

abbrev pub invariant-loop-l : goal.invariant-loop-l
invariant-loop-l g l = Gathering ((l.u * l.m + l.l) * g.row.F) g.row.F l.m l.width l.at l.planes l.x

abbrev pub invariant-loop-v : goal.invariant-loop-v
invariant-loop-v g l = Gathering ((l.u * l.m + l.l) * g.row.F + l.v) g.row.F l.m l.width l.at l.planes l.x
