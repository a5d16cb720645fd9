-- A list by its rule: its length, its entries, two rules that agree, two lists that are one, and a function of each entry.
-- Assumes nothing.
use Prim.Native.Nat.{ℕ, zero, suc, ◌+◌, ◌<◌, ◌≤◌}
use mathlib.Core.Path.{◌≡◌, refl, ap, ◌∙◌}
use mathlib.Core.List.{List, ◌∷◌, ◌++◌, map}
use native.Mathlib.Nat.{not-suc-le-zero, le_of_suc-le-suc, zero-add, suc-add}
use native.Mathlib.Omega.{arith}
use lib.ListN.{length, get_or}
use Rattle.lists.specs.Tab.{tab_from, tab}

module _ {A : Type 0} where
  pub length_tab_from : (from n : ℕ) (f : ℕ → A) → length (tab_from from n f) ≡ n
  length_tab_from from zero f = refl
  length_tab_from from (suc n) f = ap suc (length_tab_from (suc from) n f)

  get_or_tab_from : (from n k : ℕ) (f : ℕ → A) (z : A) → k < n → get_or (tab_from from n f) k z ≡ f (from + k)
  get_or_tab_from from zero k f z l = absurd (not-suc-le-zero l)
  get_or_tab_from from (suc n) zero f z l = ap f (omega arith)
  get_or_tab_from from (suc n) (suc k) f z l = get_or_tab_from (suc from) n k f z (le_of_suc-le-suc l) ∙ ap f (omega arith)

  pub get_or_tab : (n k : ℕ) (f : ℕ → A) (z : A) → k < n → get_or (tab n f) k z ≡ f k
  get_or_tab n k f z l = get_or_tab_from 0 n k f z l ∙ ap f (omega arith)

  tab_from_same : (from n : ℕ) (f g : ℕ → A) → ((k : ℕ) → from ≤ k → k < from + n → f k ≡ g k) → tab_from from n f ≡ tab_from from n g
  tab_from_same from zero f g h = refl
  tab_from_same from (suc n) f g h =
      rw (h from (omega arith) (omega arith), tab_from_same (suc from) n f g (λ k a b. h k (omega arith) (omega arith)))

  -- two rules that agree below n give the same list
  pub tab_same : (n : ℕ) (f g : ℕ → A) → ((k : ℕ) → k < n → f k ≡ g k) → tab n f ≡ tab n g
  tab_same n f g h = tab_from_same 0 n f g (λ k a b. h k (omega arith))

  pub tab_from_shift : (from n : ℕ) (f : ℕ → A) → tab_from (suc from) n f ≡ tab_from from n (λ k. f (suc k))
  tab_from_shift from zero f = refl
  tab_from_shift from (suc n) f = ap (λ (l : List A). f (suc from) ∷ l) (tab_from_shift (suc from) n f)

  pub tab_add : (n m : ℕ) (f : ℕ → A) → tab (n + m) f ≡ tab n f ++ tab m (λ k. f (n + k))
  tab_add zero m f = rw (zero-add m) (tab_same m f (λ k. f (0 + k)) (λ k h. ap f (omega arith)))
  tab_add (suc n) m f =
      let s : tab m (λ k. f (suc (n + k))) ≡ tab m (λ k. f (suc n + k)) =
      tab_same m (λ k. f (suc (n + k))) (λ k. f (suc n + k)) (λ k h. ap f (omega arith)) in
      rw (suc-add n m)
      (ap (λ (t : List A). f 0 ∷ t) (tab_from_shift 0 (n + m) f ∙ tab_add n m (λ k. f (suc k)) ∙ rw (tab_from_shift 0 n f, s)))

pub map_tab_from : {A B : Type 0} (g : A → B) (from n : ℕ) (f : ℕ → A) → map g (tab_from from n f) ≡ tab_from from n (λ k. g (f k))
map_tab_from g from zero f = refl
map_tab_from {B = B} g from (suc n) f = ap (λ (l : List B). g (f from) ∷ l) (map_tab_from g (suc from) n f)
