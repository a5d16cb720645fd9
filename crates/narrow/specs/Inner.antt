-- For the code alone, which lays the blocks of m neighbouring points of a row side by side, a list each (crate select): all of their
-- values are among the planes, and each stands in its list. No contract of an entry point reaches these.
use Rattle.std.specs.Prelude.{ℕ, ◌+◌, ◌*◌, ◌≤◌, ◌<◌, ◌≡◌, List, Float, length, get_or}
use Rattle.std.specs.Float.{nan, binary32}
use Rattle.std.specs.Float.Ieee.{to_bits}
use Rattle.lists.specs.Tab.{tab}
use Rattle.binary32.specs.Inner.{IsUnit}
use Rattle.select.specs.Inner.{list_count, list_of}
use Rattle.board.specs.Screen.{Screen}
use Rattle.board.specs.Inner.{SidesIn}

-- sides within the limits, and planes of units
pub record UnitPlanes (h w : ℕ) (planes : List Float) : Type 0 where
  pub sides : SidesIn 0 h w
  pub there : 3 * (h * w) ≤ length planes
  pub units : (q : ℕ) → q < 3 * (h * w) → IsUnit (get_or planes q nan)

-- row i of plane k
abbrev pub row_of : Screen → ℕ → ℕ → List Float
row_of s k i = tab s.width (s.px k i)

-- m points of it from column j on
abbrev pub run : Screen → ℕ → ℕ → ℕ → ℕ → List Float
run s k i j m = tab m (λ l. s.px k i (j + l))

-- those points are there, and there is a list for each
pub record PointsIn (s : Screen) (k i j m : ℕ) : Type 0 where
  pub plane : k < 3
  pub row : i < s.height
  pub some : 0 < m
  pub few : m ≤ list_count
  pub columns : j + m ≤ s.width

-- all rows of the blocks are there, the first value at `at`, and the values are units
pub record Reached (f m width at : ℕ) (planes : List Float) : Type 0 where
  pub there : (u : ℕ) → u < f → at + u * width + m * f ≤ length planes
  pub units : (u v l : ℕ) → u < f → v < f → l < m → IsUnit (get_or planes (at + u * width + l * f + v) nan)

-- the blocks of m points stand in the lists by their bits, those of point l in list l
pub record Gathered (f m width at : ℕ) (planes : List Float) (x : List (List ℕ)) : Type 0 where
  pub here : (u v l : ℕ) → u < f → v < f → l < m
      → list_of x l (u * f + v) ≡ to_bits binary32 (get_or planes (at + u * width + l * f + v) nan)
