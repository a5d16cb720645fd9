-- The two drops: how many entries each takes away, and both together as a part of the lines. Assumes nothing.
use Prim.Native.Nat.{ℕ, zero, suc, ◌-◌, ◌≤◌}
use mathlib.Core.Path.{◌≡◌, refl}
use mathlib.Core.Bool.{Bool, true, false, cond}
use mathlib.Core.List.{List, [], ◌∷◌}
use native.Mathlib.Omega.{arith}
use lib.ListN.{length, get_or, take, drop, length-drop}
use lib.Seq.{take_all}
use Rattle.std.specs.Int.{from_bool}
use Rattle.std.proofs.lemmas.Bool.Decides.{nat_tests}
use Rattle.lines.specs.Lines.{narrow_gap, drop_first, drop_last}
use Rattle.lines.specs.Inner.{narrow_at, Remains}

module _ (e : ℕ) where
  first_drop : (l : List ℕ) → drop (from_bool (narrow_at e l 0)) l ≡ drop_first e l
  first_drop [] = refl
  first_drop (x ∷ []) = refl
  first_drop (x ∷ y ∷ l) = at (narrow_gap e (y - x)) refl
    where
      at : (t : Bool) → narrow_gap e (y - x) ≡ t → drop (from_bool (narrow_at e (x ∷ y ∷ l) 0)) (x ∷ y ∷ l) ≡ cond t (y ∷ l) (x ∷ y ∷ l)
      at true h = grind (arith, nat_tests)
      at false h = grind (arith, nat_tests)

  last_at : (l : List ℕ) (n : ℕ) → length l ≡ suc (suc n)
      → take (suc (suc n) - from_bool (narrow_gap e (get_or l (suc n) 0 - get_or l n 0))) l ≡ drop_last e l
  last_at [] n h = absurd (omega arith)
  last_at (x ∷ []) n h = absurd (omega arith)
  last_at (x ∷ y ∷ []) zero h = grind arith
  last_at (x ∷ y ∷ []) (suc n) h = absurd (omega arith)
  last_at (x ∷ y ∷ z ∷ l) zero h = absurd (omega arith)
  last_at (x ∷ y ∷ z ∷ l) (suc n) h =
      rw (← last_at (y ∷ z ∷ l) n (omega arith)) (front (narrow_gap e (get_or (y ∷ z ∷ l) (suc n) 0 - get_or (y ∷ z ∷ l) n 0)))
    where
      front : (t : Bool) → take (suc (suc (suc n)) - from_bool t) (x ∷ y ∷ z ∷ l) ≡ x ∷ take (suc (suc n) - from_bool t) (y ∷ z ∷ l)
      front true = let e : suc (suc (suc n)) - 1 ≡ suc (suc (suc n) - 1) = omega arith in rw e refl
      front false = let e : suc (suc (suc n)) - 0 ≡ suc (suc (suc n) - 0) = omega arith in rw e refl

  last_drop : (l : List ℕ) → take (length l - from_bool (narrow_at e l (length l - 2))) l ≡ drop_last e l
  last_drop [] = refl
  last_drop (x ∷ []) = refl
  last_drop (x ∷ y ∷ l) = grind (arith, nat_tests, last_at (x ∷ y ∷ l) (length l) refl)

  drop_fits : (l : List ℕ) (k : ℕ) → from_bool (narrow_at e l k) ≤ length l
  drop_fits l k = grind (arith, nat_tests)

  pub both :
      (l : List ℕ) (start dropped : ℕ)
      → start ≡ from_bool (narrow_at e l 0)
      → (let rest = take (length l - start) (drop start l) in dropped ≡ from_bool (narrow_at e rest (length rest - 2)))
      → Remains e l start (length l - dropped)
  both l start dropped first last =
      let rest = drop start l in
      let long = length-drop start l in
      let begun : start ≤ length l = omega (arith, drop_fits l 0) in
      let whole : take (length l - start) rest ≡ rest = take_all (length l - start) rest (omega (arith, long)) in
      let last' = rw whole at last in
      let ended = drop_fits rest (length rest - 2) in
      let n : length l - dropped - start ≡ length rest - from_bool (narrow_at e rest (length rest - 2)) = omega (arith, long, last') in
      let is : rest ≡ drop_first e l = rw first (first_drop l) in
      record {
        rising = omega (arith, long, last', ended);
        inside = omega arith;
        is = rw (n, ← is) (last_drop rest);
      }
