-- Planes that are fit, and the answers 1, 3 and 4 to those that are not: 01, "How each operation declines".
use Rattle.std.specs.Prelude.{ℕ, ◌*◌, Bool, true, not, cond, ◌&&◌, ◌||◌, List, [], ◌∷◌, ltb, Float, length, take}
use Rattle.binary32.specs.Binary32.{unit}
use Rattle.board.specs.Board.{sides_outside}

-- every value is a unit
abbrev pub all_units : List Float → Bool
all_units [] = true
all_units (x ∷ l) = unit x && all_units l

-- the answer to the planes of an h by w screen: 1 a side outside `least` to 4,096; 3 the planes short, or another
-- lent slice; 4 one of the 3·h·w plane values is no unit; 0 otherwise
unfoldable pub planes_answer : ℕ → ℕ → ℕ → List Float → Bool → ℕ
unfolding sides_outside
planes_answer least h w planes short =
    cond (sides_outside least h w) 1
    (cond (ltb (length planes) (3 * (h * w)) || short) 3 (cond (not (all_units (take (3 * (h * w)) planes))) 4 0))
