-- The six values are those of the square, and the sum of six units is a number.
use Rattle.std.proofs.Common.{ap, ◌∙◌}
use Rattle.binary32.specs.Binary32.{magnitude}
use Rattle.gradient.proofs.Squares.{square_sum, square_number}
use Rattle.gradient.proofs.square.Square.slope.Goals as goal

pub magnitude-requires : goal.magnitude-requires
magnitude-requires c =
    let s = c.args.self.now in
    rw (c.difference.ensures, square_sum s.values.now s.at s.down s.right) (square_number s.values.now s.at s.down s.right s.units)

pub returns-clause-is : goal.returns-clause-is
returns-clause-is c =
    let s = c.args.self.now in
    c.magnitude.ensures.is ∙ ap magnitude (c.difference.ensures ∙ square_sum s.values.now s.at s.down s.right)
