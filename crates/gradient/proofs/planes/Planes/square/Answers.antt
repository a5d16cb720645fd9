-- The square stands among the planes, whose values are units.
use Rattle.std.proofs.Common.{arith}
use Rattle.gradient.proofs.Squares.{square_in}
use Rattle.gradient.proofs.Units.{units_to}
use Rattle.gradient.proofs.planes.Planes.square.Goals as goal

pub invariant_of-result : goal.invariant_of-result
invariant_of-result c =
    let s = c.args.self.now in
    let r = c.requires in
    let within = square_in s.height s.width c.args.plane c.args.i c.args.j s.fit.sides r.0 r.1 r.2 in
    record { inside = omega (arith, within, s.fit.there); units = units_to _ _ _ s.fit.there s.fit.units within }
