-- Exchanging the two steps gives the column sum.
use Rattle.gradient.proofs.Squares.{steeper_is}
use Rattle.gradient.proofs.square.Square.steeper.Goals as goal

pub returns-clause-is : goal.returns-clause-is
returns-clause-is c = let s = c.args.self.now in cc (steeper_is s.values.now s.at s.down s.right c.args.best)
