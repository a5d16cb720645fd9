-- The values before `from` are units.
use Rattle.std.proofs.Common.{◌≡◌, ◌≤◌, true, take}
use Rattle.board.specs.Planes.{all_units}
use Rattle.board.proofs.values.all_units.Given as goal

abbrev pub invariant-loop-from : goal.invariant-loop-from
invariant-loop-from v = (v.from ≤ v.n) × (all_units (take v.from v.planes) ≡ true)
