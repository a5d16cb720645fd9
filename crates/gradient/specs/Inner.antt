-- For the code alone. No contract of an entry point reaches these.
use Rattle.std.specs.Prelude.{ℕ, ◌+◌, ◌*◌, ◌≤◌, true, List, ◌≡◌, Float, get_or}
use Rattle.std.specs.Float.{nan}
use Rattle.binary32.specs.Binary32.{unit}

-- the picture that a list holds from `at` on, where the next row is `down` entries further and the next column `right`
abbrev pub square : List Float → ℕ → ℕ → ℕ → ℕ → ℕ → Float
square p at down right i j = get_or p (at + (i * down + j * right)) nan

-- every value up to the place `last` is a unit
abbrev pub UnitsTo : List Float → ℕ → Type 0
UnitsTo p last = (k : ℕ) → k ≤ last → unit (get_or p k nan) ≡ true
