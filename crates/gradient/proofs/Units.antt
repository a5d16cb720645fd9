-- Lists whose first n values are units: those up to a place below n. Assumes nothing.
use Prim.Native.Nat.{ℕ, ◌≤◌, ◌<◌}
use mathlib.Core.Path.{◌≡◌}
use mathlib.Core.Bool.{true}
use mathlib.Core.List.{List}
use native.Mathlib.Omega.{arith}
use lib.Ieee.{Float}
use lib.ListN.{length, take}
use Rattle.board.specs.Planes.{all_units}
use Rattle.board.proofs.Units.{unit_below}
use Rattle.gradient.specs.Inner.{UnitsTo}

pub units_to : (p : List Float) (n last : ℕ) → n ≤ length p → all_units (take n p) ≡ true → last < n → UnitsTo p last
units_to p n last l e h k b = unit_below p n k l e (omega arith)
