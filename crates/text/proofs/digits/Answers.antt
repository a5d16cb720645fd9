use mathlib.Core.Path.{ap}
use native.Mathlib.Omega.{arith}
use lib.ListN.{length}
use Rattle.text.proofs.Decimal.{decimal_one, decimal_most, length_more}
use Rattle.text.proofs.digits.Goals as goal

pub overflow_add-count : goal.overflow_add-count
overflow_add-count c = omega (arith, decimal_most c.args.n)

pub loop-rest-preserved : goal.loop-rest-preserved
loop-rest-preserved c =
    let more = length_more c.loop-rest.rest c.loop-rest-test.true (omega arith) in
    (omega arith, omega arith)

pub returns : goal.returns
returns c = omega (arith, ap length (decimal_one c.loop-rest.rest c.loop-rest-test.false))
