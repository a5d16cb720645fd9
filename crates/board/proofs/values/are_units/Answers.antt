use Rattle.std.proofs.Common.{◌*◌, ◌/◌, length, refl}
use Rattle.board.specs.Inner.{lanes}
use Rattle.board.proofs.Units.{units_split, units_counted}
use Rattle.board.proofs.values.are_units.Goals as goal

pub returns-then-are_whole_units : goal.returns-then-are_whole_units
returns-then-are_whole_units c =
    let values = c.args.values.now in
    rw (
      units_split (length values / lanes * lanes) values,
      ← c.split_at.ensures.front,
      ← c.split_at.ensures.back,
      ← c.are_whole_units.ensures,
      c.if-are_whole_units.true,
      c.count_passing.ensures,
    )
    (units_counted _)

pub returns-else-are_whole_units : goal.returns-else-are_whole_units
returns-else-are_whole_units c =
    let values = c.args.values.now in
    rw (units_split (length values / lanes * lanes) values, ← c.split_at.ensures.front, ← c.are_whole_units.ensures, c.if-are_whole_units.false)
    refl
