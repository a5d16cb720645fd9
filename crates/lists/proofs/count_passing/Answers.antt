use Rattle.std.proofs.Common.{sym, arith, rules}
use Rattle.lists.proofs.Count.{count_more, byte_at_most}
use Rattle.lists.proofs.count_passing.Goals as goal

pub loop-x-preserved : goal.loop-x-preserved
loop-x-preserved g c =
    let is = rw c.x-item.is at c.passes.ensures in
    let more = rw (sym is) at (count_more (g.P.Test.passed c.args.test.now) c.args.s.now c.loop-x.x-index c.x-item.result (search rules)) in
    (omega (arith, c.loop-x.invariant.0, byte_at_most c.passes.result), omega (arith, c.loop-x.invariant.1, more))
