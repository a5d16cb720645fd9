-- Sorting keys gives the keys of what is sorted: entry j of the keys is the key of entry j. Assumes nothing.
use Prim.Native.Nat.{ℕ, ◌<◌}
use mathlib.Core.Path.{◌≡◌, refl, sym, ap, ◌∙◌}
use mathlib.Core.Bool.{Bool, true, false, cond}
use mathlib.Core.List.{List, [], ◌∷◌, map}
use native.Mathlib.Omega.{arith}
use lib.Dec.{leb}
use lib.ListN.{length}
use Rattle.std.proofs.lemmas.List.{get_or-map}
use Rattle.lists.specs.Tab.{tab}
use Rattle.lists.proofs.Tab.{length_tab_from, map_tab_from}
use Rattle.rank.specs.Rank.{self, insert, sort, entry}
use Rattle.rank.proofs.Members.{length_sort}

module _ {A : Type 0} (key : A → ℕ) where
  insert_keys : (x : A) (l : List A) → insert self (key x) (map key l) ≡ map key (insert key x l)
  insert_keys x [] = refl
  insert_keys x (y ∷ l) = at (insert_keys x l) (leb (key x) (key y))
    where
      at : insert self (key x) (map key l) ≡ map key (insert key x l) → (t : Bool)
          → cond t (key x ∷ key y ∷ map key l) (key y ∷ insert self (key x) (map key l)) ≡ map key (cond t (x ∷ y ∷ l) (y ∷ insert key x l))
      at ih true = refl
      at ih false = ap (λ (k : List ℕ). key y ∷ k) ih

  sort_keys : (l : List A) → sort self (map key l) ≡ map key (sort key l)
  sort_keys [] = refl
  sort_keys (x ∷ l) = ap (insert self (key x)) (sort_keys l) ∙ insert_keys x (sort key l)

  entry_keys : (d : A) (l : List A) (j : ℕ) → j < length l → entry self 0 (map key l) j ≡ key (entry key d l j)
  unfolding entry
  entry_keys d l j h = rw (sort_keys l) (get_or-map key (sort key l) j d 0 (omega (arith, length_sort key l)))

  pub tab_keys : (d : A) (n j : ℕ) (f : ℕ → A) → j < n → entry self 0 (tab n (λ k. key (f k))) j ≡ key (entry key d (tab n f) j)
  tab_keys d n j f h = rw (sym (map_tab_from key 0 n f)) (entry_keys d (tab n f) j (omega (arith, length_tab_from 0 n f)))
