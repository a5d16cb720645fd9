-- The row is one of the sample, and it lies among the gradients.
use Rattle.std.proofs.Common.{arith}
use Rattle.std.proofs.Math.Nat.{mul-le-mul}
use Rattle.edges.proofs.Sample.{row_in}
use Rattle.edges.proofs.gradients.Gradients.start.Goals as goal

pub returns-clause-inside : goal.returns-clause-inside
returns-clause-inside c =
    let g = c.args.self.now in
    let p = c.args.part in
    rw c.columns.ensures.0 (row_in p.every p.parts g.row g.column c.args.i p.every_in p.parts_in c.requires)

pub overflow_add-result-2 : goal.overflow_add-result-2
overflow_add-result-2 c =
    let g = c.args.self.now in
    omega (arith, returns-clause-inside c, mul-le-mul g.fit.row_in g.fit.column_in)
