use Rattle.std.proofs.Common.{arith}
use Rattle.binary32.proofs.Plain.{bits_back}
use Rattle.gradient.proofs.Squares.{gradient_at_is}
use Rattle.gradient.proofs.planes.Planes.steepest.Goals as goal

pub returns : goal.returns
returns c = let s = c.args.self.now in cc (gradient_at_is s.height s.width s.values.now c.args.i c.args.j)

-- 0.0
pub steeper-first-requires : goal.steeper-first-requires
steeper-first-requires c = omega (arith, bits_back 0 (omega arith))
