-- The widening's definitions unfolded one turn, as its loops take them. Assumes nothing.
use Prim.Native.Nat.{ℕ, zero, suc, ◌+◌, ◌-◌, ◌<◌, ◌≤◌}
use mathlib.Core.Path.{◌≡◌}
use mathlib.Core.Bool.{Bool, true, false, cond}
use native.Mathlib.Numerals.{add-one}
use native.Mathlib.Omega.{arith}
use lib.Dec.{leb}
use Rattle.bounds.specs.Widen.{total, lowered}
use Rattle.bounds.proofs.Scans.{left_more}

module _ (f : ℕ → ℕ) where
  pub total_more : (p hi : ℕ) → p < hi → total f p (hi - p) ≡ f p + total f (p + 1) (hi - (p + 1))
  total_more p hi h = rw (left_more h, add-one p)

module _ (sum : ℕ → ℕ) where
  pub lowered_more : (m : ℕ) → 1 < m → lowered sum m ≡ cond (leb (sum m) 2) m (lowered sum (m - 1))
  lowered_more zero h = absurd (omega arith)
  lowered_more (suc zero) h = absurd (omega arith)
  lowered_more (suc (suc m)) h = let e : suc (suc m) - 1 ≡ suc m = omega arith in rw e

  pub lowered_le : (m : ℕ) → lowered sum m ≤ m
  lowered_le zero = omega arith
  lowered_le (suc zero) = omega arith
  lowered_le (suc (suc m)) = at (lowered_le (suc m)) (leb (sum (suc (suc m))) 2)
    where
      at : lowered sum (suc m) ≤ suc m → (t : Bool) → cond t (suc (suc m)) (lowered sum (suc m)) ≤ suc (suc m)
      at ih true = omega arith
      at ih false = omega arith
