-- For the code alone: what checks that were passed show. No contract of an entry point reaches these.
use Rattle.std.specs.Prelude.{ℕ, zero, suc, ◌+◌, ◌*◌, ◌≤◌, ◌<◌, ◌≡◌, true, not, T, is_nan, List, Float, length, get_or, take}
use Rattle.std.specs.Float.{nan, binary32}
use Rattle.std.specs.Float.Ieee.{add, of_bits}
use Rattle.board.specs.Board.{most_side, least_factor, most_factor}
use Rattle.board.specs.Planes.{all_units}

-- sides from `least` to the largest
pub record SidesIn (least h w : ℕ) : Type 0 where
  pub low_h : least ≤ h
  pub high_h : h ≤ most_side
  pub low_w : least ≤ w
  pub high_w : w ≤ most_side
  pub area : h * w ≤ most_side * most_side

-- a factor of a narrowing
pub record FactorIn (f : ℕ) : Type 0 where
  pub low : least_factor ≤ f
  pub high : f ≤ most_factor

-- such sides, planes that are there, and each of their values a unit
pub record FitPlanes (least h w : ℕ) (planes : List Float) : Type 0 where
  pub sides : SidesIn least h w
  pub there : 3 * (h * w) ≤ length planes
  pub units : all_units (take (3 * (h * w)) planes) ≡ true

-- ---- sums that tell of a NaN

abbrev pub lanes : ℕ
lanes = 16

-- lane l of the values in rows of 16
abbrev pub lane : List Float → ℕ → ℕ → Float
lane values l k = get_or values (k * lanes + l) nan

-- the sum of f 0 to f (n - 1), one after another from 0.0
abbrev pub lane_sum : (ℕ → Float) → ℕ → Float
lane_sum f zero = of_bits binary32 0
lane_sum f (suc n) = add binary32 (lane_sum f n) (f n)

-- no value is a NaN
abbrev pub AllNumbers : List Float → Type 0
AllNumbers values = (k : ℕ) → k < length values → T (not (is_nan (get_or values k nan)))
