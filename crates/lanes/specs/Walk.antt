-- 01, "Path scores": a walk by itself, without the way in which the least cost is worked out.
-- `set t j` tells whether the point in row t of the strip and lane j is set; row 0 is the first.
use Rattle.std.specs.Prelude.{ℕ, zero, suc, ◌+◌, ◌-◌, ◌≤◌, ◌<◌, Bool, not, ◌≡◌}
use Rattle.lists.specs.Picture.{bit}

-- how far two lanes lie apart
abbrev pub apart : ℕ → ℕ → ℕ
apart a b = (a - b) + (b - a)

-- a walk of so many steps: one of five lanes for each row, neighbours differing by at most 1
pub record Walk (steps : ℕ) : Type 0 where
  pub lane : ℕ → ℕ
  pub is_on_strip : (t : ℕ) → t ≤ steps → lane t ≤ 4
  pub near : (t : ℕ) → t < steps → apart (lane t) (lane (suc t)) ≤ 1

-- the last lane
abbrev pub ends : {steps : ℕ} → Walk steps → ℕ
ends {steps} w = w.lane steps

-- the cost of the first t steps to the target lane k: from the target to the first lane, each sideways move, and one for each step whose
-- point (new row, old lane) is unset
abbrev pub cost_of : (ℕ → ℕ → Bool) → ℕ → (ℕ → ℕ) → ℕ → ℕ
cost_of set k lane zero = apart (lane 0) k
cost_of set k lane (suc t) = cost_of set k lane t + (apart (lane t) (lane (suc t)) + bit (not (set (suc t) (lane t))))

abbrev pub cost : (ℕ → ℕ → Bool) → ℕ → {steps : ℕ} → Walk steps → ℕ
cost set k {steps} w = cost_of set k w.lane steps

-- A walk scores its steps less its cost, which may be below zero. So that it scores at most s, or exactly s, is said by sums.
abbrev pub ScoresAtMost : (ℕ → ℕ → Bool) → ℕ → {steps : ℕ} → Walk steps → ℕ → Type 0
ScoresAtMost set k {steps} w s = steps ≤ s + cost set k w

abbrev pub Scores : (ℕ → ℕ → Bool) → ℕ → {steps : ℕ} → Walk steps → ℕ → Type 0
Scores set k {steps} w s = steps ≡ s + cost set k w
