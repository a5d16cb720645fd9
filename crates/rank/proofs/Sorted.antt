-- Sorting puts the entries in order: what counts tell of the places of a sorted list. Assumes nothing.
use Prim.Native.Nat.{ℕ, zero, suc, ◌+◌, ◌≤◌, ◌<◌}
use mathlib.Core.Path.{◌≡◌, refl, ap, ◌∙◌}
use mathlib.Core.Bool.{Bool, true, false, cond}
use mathlib.Core.List.{List, [], ◌∷◌}
use native.Mathlib.Omega.{arith}
use borrow.Author.Tests.{leb-true, leb-false, le-leb, lt-leb}
use lib.ListN.{length, get_or}
use lib.Dec.{leb}
use Rattle.rank.specs.Rank.{insert, sort}
use Rattle.rank.specs.Inner.{count_at_most}
use Rattle.rank.proofs.Members.{Each, each_at, each_insert}

module _ {A : Type 0} (key : A → ℕ) where
  -- every entry's key is at least b
  abbrev pub Low : ℕ → List A → Type 0
  Low b = Each (λ x. b ≤ key x)

  -- rising: no entry is below the one before it
  abbrev pub Sorted : List A → Type 0
  Sorted [] = Unit
  Sorted (x ∷ l) = Low (key x) l × Sorted l

  low_less : {a b : ℕ} (l : List A) → a ≤ b → Low b l → Low a l
  low_less [] h w = tt
  low_less (x ∷ l) h w = (omega (arith, w.0), low_less l h w.1)

  sorted_insert : (x : A) (l : List A) → Sorted l → Sorted (insert key x l)
  sorted_insert x [] w = (tt, tt)
  sorted_insert x (y ∷ l) w = at (sorted_insert x l w.1) (leb (key x) (key y)) refl
    where
      at : Sorted (insert key x l) → (t : Bool) → leb (key x) (key y) ≡ t → Sorted (cond t (x ∷ y ∷ l) (y ∷ insert key x l))
      at ih true e = ((leb-true _ _ e, low_less l (leb-true _ _ e) w.0), w)
      at ih false e = (each_insert key (λ z. key y ≤ key z) x l (omega (arith, leb-false (key x) (key y) e)) w.0, ih)

  pub sorted_sort : (l : List A) → Sorted (sort key l)
  sorted_sort [] = tt
  sorted_sort (x ∷ l) = sorted_insert x (sort key l) (sorted_sort l)

  count_insert : (v : ℕ) (x : A) (l : List A) → count_at_most key v (insert key x l) ≡ count_at_most key v (x ∷ l)
  count_insert v x [] = refl
  count_insert v x (y ∷ l) = at (count_insert v x l) (leb (key x) (key y))
    where
      at : count_at_most key v (insert key x l) ≡ count_at_most key v (x ∷ l) → (t : Bool)
          → count_at_most key v (cond t (x ∷ y ∷ l) (y ∷ insert key x l)) ≡ count_at_most key v (x ∷ y ∷ l)
      at ih true = refl
      at ih false = omega arith

  pub count_sort : (v : ℕ) (l : List A) → count_at_most key v (sort key l) ≡ count_at_most key v l
  count_sort v [] = refl
  count_sort v (x ∷ l) = count_insert v x (sort key l) ∙ ap (λ (n : ℕ). cond (leb (key x) v) 1 0 + n) (count_sort v l)

  low_none : (b v : ℕ) (l : List A) → Low b l → v < b → count_at_most key v l ≡ 0
  low_none b v [] w h = refl
  low_none b v (x ∷ l) w h = let n : v < key x = omega (arith, w.0) in rw (lt-leb (key x) v n, low_none b v l w.1 h)

  pub above : (v : ℕ) (s : List A) (j : ℕ) (d : A) → Sorted s → j < length s → key (get_or s j d) ≤ v → j < count_at_most key v s
  above v [] j d w h k = absurd (omega arith)
  above v (x ∷ s) zero d w h k = rw (le-leb (key x) v k) (omega arith)
  above v (x ∷ s) (suc j) d w h k =
      let l : key x ≤ v = omega (arith, each_at (λ z. key x ≤ key z) s j d w.0 (omega arith)) in
      rw (le-leb (key x) v l) (omega (arith, above v s j d w.1 (omega arith) k))

  pub below : (v : ℕ) (s : List A) (j : ℕ) (d : A) → Sorted s → j < length s → v < key (get_or s j d) → count_at_most key v s ≤ j
  below v [] j d w h k = absurd (omega arith)
  below v (x ∷ s) zero d w h k = rw (lt-leb (key x) v k, low_none (key x) v s w.0 k) (omega arith)
  below v (x ∷ s) (suc j) d w h k = at (below v s j d w.1 (omega arith) k) (leb (key x) v)
    where
      at : count_at_most key v s ≤ j → (t : Bool) → cond t 1 0 + count_at_most key v s ≤ suc j
      at ih true = omega arith
      at ih false = omega arith
