use Rattle.board.proofs.Units.{units_counted}
use Rattle.board.proofs.values.are_whole_units.Goals as goal

pub returns-then-are_numbers : goal.returns-then-are_numbers
returns-then-are_numbers c = rw c.count_above.ensures (units_counted c.args.values.now)
