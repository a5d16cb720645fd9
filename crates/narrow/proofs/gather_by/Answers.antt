use Rattle.std.proofs.Common.{arith, rules}
use Rattle.binary32.proofs.Numbers.{finite_number, unit_finite}
use Rattle.narrow.proofs.Gathering.{gathered_more, gathered_all}
use Rattle.narrow.proofs.gather_by.Goals as goal

pub float_to_bits-x : goal.float_to_bits-x
float_to_bits-x g c =
    let u = c.requires.0.units c.loop-u.u c.loop-v.v c.loop-l.l c.loop-u-test.true c.loop-v-test.true c.loop-l-test.true in
    finite_number _ (unit_finite _ u.small)

pub loop-v-preserved : goal.loop-v-preserved
loop-v-preserved g c = search (rules, gathered_more)

pub returns : goal.returns
returns g c = gathered_all c.loop-u.invariant (omega arith)
