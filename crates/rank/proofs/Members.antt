-- A sorted list has the entries of the list: as many of them, and what holds of each before holds of each after. Assumes nothing.
use Prim.Native.Nat.{ℕ, zero, suc, ◌<◌}
use mathlib.Core.Path.{◌≡◌, refl, ap, ◌∙◌}
use mathlib.Core.Bool.{Bool, true, false, cond}
use mathlib.Core.List.{List, [], ◌∷◌}
use native.Mathlib.Omega.{arith}
use lib.Dec.{leb}
use lib.ListN.{length, get_or}
use Rattle.lists.specs.Tab.{tab}
use Rattle.lists.proofs.Tab.{length_tab_from, get_or_tab}
use Rattle.rank.specs.Rank.{insert, sort, entry}

module _ {A : Type 0} (key : A → ℕ) where
  length_insert : (x : A) (l : List A) → length (insert key x l) ≡ suc (length l)
  length_insert x [] = refl
  length_insert x (y ∷ l) = at (length_insert x l) (leb (key x) (key y))
    where
      at : length (insert key x l) ≡ suc (length l) → (t : Bool) → length (cond t (x ∷ y ∷ l) (y ∷ insert key x l)) ≡ suc (suc (length l))
      at ih true = refl
      at ih false = ap suc ih

  pub length_sort : (l : List A) → length (sort key l) ≡ length l
  length_sort [] = refl
  length_sort (x ∷ l) = length_insert x (sort key l) ∙ ap suc (length_sort l)

-- P holds of every entry
abbrev pub Each : {A : Type 0} → (A → Type 0) → List A → Type 0
Each P [] = Unit
Each P (x ∷ l) = P x × Each P l

module _ {A : Type 0} (P : A → Type 0) where
  each_of : (l : List A) (d : A) → ((k : ℕ) → k < length l → P (get_or l k d)) → Each P l
  each_of [] d h = tt
  each_of (x ∷ l) d h = (h 0 (omega arith), each_of l d (λ k b. h (suc k) (omega arith)))

  pub each_at : (l : List A) (j : ℕ) (d : A) → Each P l → j < length l → P (get_or l j d)
  each_at [] j d e h = absurd (omega arith)
  each_at (x ∷ l) zero d e h = e.0
  each_at (x ∷ l) (suc j) d e h = each_at l j d e.1 (omega arith)

module _ {A : Type 0} (key : A → ℕ) (P : A → Type 0) where
  pub each_insert : (x : A) (l : List A) → P x → Each P l → Each P (insert key x l)
  each_insert x [] p e = (p, tt)
  each_insert x (y ∷ l) p e = at (each_insert x l p e.1) (leb (key x) (key y))
    where
      at : Each P (insert key x l) → (t : Bool) → Each P (cond t (x ∷ y ∷ l) (y ∷ insert key x l))
      at ih true = (p, e)
      at ih false = (e.0, ih)

  each_sort : (l : List A) → Each P l → Each P (sort key l)
  each_sort [] e = tt
  each_sort (x ∷ l) e = each_insert x (sort key l) e.0 (each_sort l e.1)

  pub entry_each : (d : A) (l : List A) (j : ℕ) → Each P l → j < length l → P (entry key d l j)
  unfolding entry
  entry_each d l j e h = each_at P (sort key l) j d (each_sort l e) (omega (arith, length_sort key l))

-- the same, told of the list's places
pub entry_has : {A : Type 0} (key : A → ℕ) (d : A) (P : A → Type 0) (l : List A) (j : ℕ) → j < length l →
    ((k : ℕ) → k < length l → P (get_or l k d)) → P (entry key d l j)
entry_has key d P l j h p = entry_each key P d l j (each_of P l d p) h

-- and of a list that is given by its rule
pub tab_has : {A : Type 0} (key : A → ℕ) (d : A) (P : A → Type 0) (n j : ℕ) (f : ℕ → A) → j < n → ((k : ℕ) → k < n → P (f k))
    → P (entry key d (tab n f) j)
tab_has key d P n j f h p =
    let long = length_tab_from 0 n f in
    entry_has key d P (tab n f) j (omega (arith, long))
    (λ k l. let below : k < n = omega (arith, long) in rw (get_or_tab n k f d below) (p k below))
