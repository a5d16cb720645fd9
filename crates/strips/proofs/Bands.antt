-- Bands of strips: a band lies within the picture, and its scores go on where those before it end. Assumes nothing.
use Prim.Native.Nat.{ℕ, ◌+◌, ◌-◌, ◌*◌, ◌≤◌, ◌<◌}
use mathlib.Core.Path.{◌≡◌, ap, ◌∙◌}
use mathlib.Core.List.{List}
use native.Mathlib.Nat.{mul-le-mul_left, mul-le-mul_right, add-mul}
use native.Mathlib.Omega.{arith}
use borrow.Rule.Slice.PartMut.{mid_of, put_mid, mid_len}
use lib.ListN.{length}
use Rattle.lists.specs.Front.{AtFront}
use Rattle.lists.specs.Tab.{tab}
use Rattle.lists.proofs.Tab.{length_tab_from, tab_same, tab_add}
use Rattle.lists.proofs.Front.{placed_front, placed_part}

-- the rows of m strips from row r on, as far as column `to`, lie within a picture that has row `last` so far
pub block_in : (from to r m across last n : ℕ) → from ≤ to → r + m + 3 ≤ last → to * 1 + last * across < n →
    r * across + from + (m + 4) * across + (to - from + 1) ≤ n + across
block_in from to r m across last n f h l =
    omega (arith, mul-le-mul_right across h, add-mul (r + m + 3) 1 across, add-mul r (m + 4) across)

-- the scratch of a band of m strips lies within that of n
pub scratch_in : (k m n len : ℕ) → m + 4 ≤ n → k * n ≤ len → k * (m + 4) ≤ len
scratch_in k m n len h l = omega (arith, mul-le-mul_left k h)

module _ {A : Type 0} where
  -- the entries from i to `end` by a rule g that counts from their start
  pub front_band : (f : ℕ → A) {g : ℕ → A} {i end next : ℕ} {lent s last : List A} → AtFront (tab i f) lent s → i ≤ end → end ≤ length s →
      end ≡ next → last ≡ tab (length (mid_of i (end - i) s)) g → ((j : ℕ) → g j ≡ f (i + j)) →
      AtFront (tab next f) lent (put_mid i (end - i) s last)
  front_band f {g} {i} {end} {next} {lent} {s} {last} h l b q e same =
      let m = end - i in
      let part : length (mid_of i m s) ≡ m = mid_len i end s b in
      let is : last ≡ tab m (λ j. f (i + j)) = rw part at e ∙ tab_same m g (λ j. f (i + j)) (λ j k. same j) in
      let long : length last ≡ m = ap length is ∙ length_tab_from 0 m _ in
      let z : next ≡ i + m = omega arith in
      rw (z, tab_add i m f, ← is) (placed_front h (length_tab_from 0 i f) (placed_part i m s last part long))
