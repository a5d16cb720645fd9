-- Pixel p of a screen stands in row p / w and column p % w. Assumes nothing.
use Prim.Native.Nat.{ℕ, ◌+◌, ◌-◌, ◌*◌, ◌/◌, ◌%◌}
use mathlib.Core.Path.{◌≡◌}
use mathlib.Core.List.{List}
use native.Mathlib.Nat.{div-add-mod'}
use lib.Ieee.{Float}
use lib.ListN.{get_or}
use Rattle.load.specs.Load.{level, shown}

-- the value of plane k at pixel p
abbrev pub shown_at : ℕ → ℕ → ℕ → List ℕ → ℕ → ℕ → Float
shown_at top h w pixels k p = (shown top h w pixels).px k (p / w) (p % w)

-- it comes from the number at `at`, which is 2 − k past the pixel's first
pub value_is : (top h w : ℕ) (pixels : List ℕ) (k p at v : ℕ) → v ≡ get_or pixels at 0 → at ≡ 4 * p + (2 - k)
    → level top v ≡ shown_at top h w pixels k p
value_is top h w pixels k p at v e f = rw (e, f, div-add-mod' p w)
