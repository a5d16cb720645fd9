-- A slice is stated as the list of a function's values, so that a rule is written over rows and columns and not over indices.
use Rattle.std.specs.Prelude.{ℕ, zero, suc, ◌*◌, ◌/◌, ◌%◌, List, [], ◌∷◌}

-- n values of f, the first at `from`
abbrev pub tab_from : {A : Type 0} → ℕ → ℕ → (ℕ → A) → List A
tab_from from zero f = []
tab_from from (suc n) f = f from ∷ tab_from (suc from) n f

-- f 0, f 1, .., n of them
abbrev pub tab : {A : Type 0} → ℕ → (ℕ → A) → List A
tab n f = tab_from 0 n f

-- the values of f at each row and column, rows first
abbrev pub grid : {A : Type 0} → ℕ → ℕ → (ℕ → ℕ → A) → List A
grid rows columns f = tab (rows * columns) (λ k. f (k / columns) (k % columns))
