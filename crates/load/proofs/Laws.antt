-- What callers know of a loaded screen: its planes are fit, as each value is a number of a channel over the largest one. Assumes nothing.
use Prim.Native.Nat.{ℕ, ◌+◌, ◌-◌, ◌*◌, ◌≤◌, ◌<◌}
use mathlib.Core.Path.{◌≡◌}
use mathlib.Core.Bool.{true}
use mathlib.Core.List.{List}
use native.Mathlib.Omega.{arith}
use lib.Ieee.{Float}
use lib.ListN.{length, get_or, drop, length-append}
use lib.Seq.{take_at, take_all}
use Rattle.lists.specs.Front.{over}
use Rattle.board.specs.Board.{least_side}
use Rattle.board.specs.Planes.{all_units}
use Rattle.board.specs.Inner.{SidesIn, FitPlanes}
use Rattle.board.specs.Screen.{packed}
use Rattle.board.proofs.Packed.{length_packed, packed_units}
use Rattle.load.specs.Load.{shown}
use Rattle.load.proofs.Units.{level_unit}

module _ (top h w : ℕ) (pixels : List ℕ) (some : 0 < top) (exact : top ≤ 16777216) (low : (k : ℕ) → get_or pixels k 0 ≤ top) where
  loaded_units : all_units (packed (shown top h w pixels)) ≡ true
  loaded_units =
      packed_units (shown top h w pixels) (λ k i j a b c. level_unit top _ some exact (low (4 * (i * w + j) + (2 - k))))

  -- in lent planes
  pub loaded_fit : (planes : List Float) → SidesIn least_side h w → FitPlanes least_side h w (over (packed (shown top h w pixels)) planes)
  loaded_fit planes s =
      let list = packed (shown top h w pixels) in
      let l = length_packed (shown top h w pixels) in
      record {
        sides = s;
        there = omega (arith, l, length-append list (drop (length list) planes));
        units = rw (take_at list (drop (length list) planes) (3 * (h * w)) l) loaded_units;
      }

  -- in planes of just their size
  pub shown_fit : SidesIn least_side h w → FitPlanes least_side h w (packed (shown top h w pixels))
  shown_fit s =
      let list = packed (shown top h w pixels) in
      let l = length_packed (shown top h w pixels) in
      record { sides = s; there = omega (arith, l); units = rw (take_all (3 * (h * w)) list (omega (arith, l))) loaded_units }
