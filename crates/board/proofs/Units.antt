-- Lists of units, told of each value; lists whose first n values are units, and how a count of the others tells it. Assumes nothing.
use Prim.Native.Nat.{ℕ, zero, suc, ◌+◌, ◌-◌, ◌≤◌, ◌<◌}
use mathlib.Core.Path.{◌≡◌, refl, sym, ap, ◌∙◌}
use mathlib.Core.Bool.{Bool, true, false, not, cond, ◌&&◌}
use mathlib.Core.List.{List, [], ◌∷◌, ◌++◌}
use native.Mathlib.Nat.{zero-add}
use native.Mathlib.Omega.{arith}
use borrow.Author.Tests.{ne_eqb}
use lib.Dec.{eqb}
use lib.Ieee.{Float, nan}
use lib.ListN.{length, get_or, take, drop, take-append-drop}
use lib.Seq.{get_or-take, length-take-le, take-add}
use Rattle.lists.specs.Count.{count}
use Rattle.binary32.specs.Binary32.{unit}
use Rattle.std.proofs.lemmas.Bool.{and_parts}
use Rattle.board.specs.Planes.{all_units}

pub units_at : (l : List Float) (k : ℕ) → all_units l ≡ true → k < length l → unit (get_or l k nan) ≡ true
units_at [] k e h = absurd (omega arith)
units_at (x ∷ l) zero e h = (and_parts (unit x) (all_units l) e).0
units_at (x ∷ l) (suc k) e h = units_at l k (and_parts (unit x) (all_units l) e).1 (omega arith)

pub units_all : (l : List Float) → ((k : ℕ) → k < length l → unit (get_or l k nan) ≡ true) → all_units l ≡ true
units_all [] h = refl
units_all (x ∷ l) h = rw (h 0 (omega arith)) (units_all l (λ k b. h (suc k) (omega arith)))

-- one of the first n values, which are units
pub unit_below : (p : List Float) (n k : ℕ) → n ≤ length p → all_units (take n p) ≡ true → k < n → unit (get_or p k nan) ≡ true
unit_below p n k l e h = rw (get_or-take n p k nan h) at (units_at (take n p) k e (omega (arith, length-take-le n p l)))

-- ---- counting

-- no value is bad
pub units_counted : (l : List Float) → eqb (count (λ x. not (unit x)) l) 0 ≡ all_units l
units_counted [] = refl
units_counted (x ∷ l) = at (units_counted l) (unit x)
  where
    at : eqb (count (λ y. not (unit y)) l) 0 ≡ all_units l → (t : Bool) → eqb (cond (not t) 1 0 + count (λ y. not (unit y)) l) 0 ≡ (t && all_units l)
    at ih true = rw (zero-add (count (λ y. not (unit y)) l)) ih
    at ih false = ne_eqb _ 0 (λ e. omega arith)

-- two parts of a list
pub units_append : (a b : List Float) → all_units (a ++ b) ≡ (all_units a && all_units b)
units_append [] b = refl
units_append (x ∷ a) b = go (unit x) (units_append a b)
  where
    go : (t : Bool) → all_units (a ++ b) ≡ (all_units a && all_units b) → (t && all_units (a ++ b)) ≡ ((t && all_units a) && all_units b)
    go true e = e
    go false e = refl

pub units_split : (k : ℕ) (l : List Float) → all_units l ≡ (all_units (take k l) && all_units (drop k l))
units_split k l = ap all_units (sym (take-append-drop k l)) ∙ units_append (take k l) (drop k l)

-- the first values, and those behind them up to a place
pub units_up_to : (from to : ℕ) (l : List Float) → from ≤ to
    → all_units (take to l) ≡ (all_units (take from l) && all_units (take (to - from) (drop from l)))
units_up_to from to l le =
    let e : to ≡ from + (to - from) = omega arith in
    ap (λ (n : ℕ). all_units (take n l)) e
    ∙ ap all_units (take-add from (to - from) l)
    ∙ units_append (take from l) (take (to - from) (drop from l))

-- one among them is no unit
pub no_unit_up_to : (from to n : ℕ) (l : List Float) → from ≤ to → to ≤ n → all_units (take from l) ≡ true
    → all_units (take (to - from) (drop from l)) ≡ false → false ≡ all_units (take n l)
no_unit_up_to from to n l a b e f = let g = units_up_to from to l a in rw (units_up_to to n l b, g, e, f) refl
