-- The value of plane 1 at a place of the picture is there, and is a unit. Assumes nothing.
use Prim.Native.Nat.{ℕ, ◌+◌, ◌*◌, ◌<◌}
use mathlib.Core.Path.{◌≡◌}
use mathlib.Core.Bool.{true}
use mathlib.Core.List.{List}
use native.Mathlib.Omega.{arith}
use lib.Arith.{digits_lt}
use lib.Ieee.{Float, nan}
use lib.ListN.{get_or}
use Rattle.binary32.specs.Binary32.{unit}
use Rattle.board.specs.declared.Board.{Board}
use Rattle.board.proofs.Units.{unit_below}
use Rattle.map.specs.Inner.{Printable}

pub value_unit : (b : Board) (planes : List Float) (i j : ℕ) → Printable b planes → i < b.height → j < b.width
    → unit (get_or planes (b.height * b.width + (i * b.width + j)) nan) ≡ true
value_unit b planes i j p h w =
    let fit = p.planes_fit in
    let place : i * b.width + j < b.height * b.width = digits_lt h w in
    unit_below planes _ (b.height * b.width + (i * b.width + j)) fit.there fit.units (omega (arith, place))
