-- 01, "Path scores": the score of a place on a strip of five neighbouring columns. Rows are the columns of the flipped picture.
use Rattle.std.specs.Prelude.{ℕ, zero, suc, ◌+◌, ◌-◌, min, Bool, not, cond, ltb}
use Rattle.lists.specs.Picture.{bit}
use Rattle.lanes.specs.Walk.{apart}

-- a scored place: a strip, by its first column, and the target lane
pub record Place : Type 0 where
  pub strip : ℕ
  pub lane : ℕ

abbrev pub at : ℕ → ℕ → Place
at c k = record { strip = c; lane = k }

-- one row on: the least cost of a lane, where `paid` is the cost of each lane with its own unset point
abbrev pub onward : (ℕ → ℕ) → ℕ → ℕ
onward paid zero = min (paid 0) (paid 1 + 1)
onward paid (suc j) = min (min (paid (suc j)) (paid j + 1)) (cond (ltb (suc j) 4) (paid (suc (suc j)) + 1) (paid (suc j)))

-- the least cost to the target lane k of a walk that ends at a lane
abbrev pub least_cost : (ℕ → ℕ → Bool) → ℕ → ℕ → ℕ → ℕ
least_cost set k zero j = apart j k
least_cost set k (suc t) j = onward (λ i. least_cost set k t i + bit (not (set (suc t) i))) j

-- the points of a place's strip: row t from `from` on, lane j
abbrev pub on_strip : (ℕ → ℕ → Bool) → ℕ → Place → ℕ → ℕ → Bool
on_strip E from p t j = E (from + t) (p.strip + j)

-- the score of a place over the rows `from` to `to`
unfoldable pub score : (ℕ → ℕ → Bool) → ℕ → ℕ → Place → ℕ
score E from to p = to - from - least_cost (on_strip E from p) p.lane (to - from) p.lane
