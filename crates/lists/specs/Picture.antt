-- A picture is a function of row and column.
use Rattle.std.specs.Prelude.{ℕ, ◌+◌, ◌*◌, Bool, cond, List, eqb, get_or}

-- rows and columns exchanged
abbrev pub flip : {A : Type 0} → (ℕ → ℕ → A) → ℕ → ℕ → A
flip a i j = a j i

-- 1 for a set point, 0 for an unset one
abbrev pub bit : Bool → ℕ
bit b = cond b 1 0

-- the picture in a list of bytes: the point in row i and column j is the byte at i·down + j·across, and it is set if that is 1
unfoldable pub points : ℕ → ℕ → List ℕ → ℕ → ℕ → Bool
points down across e i j = eqb (get_or e (i * down + j * across) 0) 1
