-- A grid row by row: the row and the column of a place, where rows end, and one row more. Assumes nothing.
use Prim.Native.Nat.{ℕ, zero, suc, ◌+◌, ◌*◌, ◌/◌, ◌%◌, ◌≤◌, ◌<◌}
use mathlib.Core.Path.{◌≡◌, ap, ◌∙◌}
use mathlib.Core.List.{List, [], ◌∷◌, ◌++◌}
use native.Mathlib.Nat.{div-lt_iff_lt-mul, mod-lt, mul-zero, add-zero, add-mul, suc-mul, one-mul, mul-le-mul_right}
use native.Mathlib.Omega.{arith}
use lib.Arith.{digits_div, digits_mod}
use Rattle.lists.specs.Tab.{tab, grid}
use Rattle.lists.proofs.Tab.{tab_same, tab_add}

-- the row and the column of a place
pub row_column : (rows columns k : ℕ) → k < rows * columns → (k / columns < rows) × (k % columns < columns)
row_column rows zero k l = absurd (omega (arith, mul-zero rows))
row_column rows (suc n) k l = ((div-lt_iff_lt-mul {k = suc n} {x = k} {y = rows} (omega arith)).1 l, mod-lt k (omega arith))

-- rows i to i + w of n rows end within them
pub rows_fit : (i w n s : ℕ) → i + w ≤ n → i * s + w * s ≤ n * s
rows_fit i w n s h = omega (arith, mul-le-mul_right s h, add-mul i w s)

pub row_fits : (i n s : ℕ) → i < n → i * s + s ≤ n * s
row_fits i n s h = omega (arith, mul-le-mul_right s h, suc-mul i s)

module _ {A : Type 0} where
  pub tab_more : (n : ℕ) (f : ℕ → A) → tab (n + 1) f ≡ tab n f ++ (f n ∷ [])
  tab_more n f = tab_add n 1 f ∙ rw (add-zero n)

  pub grid_more : (i columns : ℕ) (f : ℕ → ℕ → A) → grid (i + 1) columns f ≡ grid i columns f ++ tab columns (f i)
  grid_more i columns f =
      let e : (i + 1) * columns ≡ i * columns + columns = add-mul i 1 columns ∙ omega (arith, one-mul columns) in
      let row : tab columns (λ k. f ((i * columns + k) / columns) ((i * columns + k) % columns)) ≡ tab columns (f i) =
      tab_same columns _ _ (λ k h. rw (digits_div i h, digits_mod i h)) in
      rw e (tab_add (i * columns) columns (λ k. f (k / columns) (k % columns)) ∙ ap (λ (l : List A). grid i columns f ++ l) row)
