-- For the code alone: what it asks of a list, and where the lines that remain stand. No contract of an entry point reaches these.
use Rattle.std.specs.Prelude.{ℕ, ◌+◌, ◌-◌, ◌≤◌, ◌≡◌, Bool, ◌&&◌, List, ltb, length, get_or, take, drop}
use Rattle.lines.specs.Lines.{largest, narrow_gap, drop_first, drop_last}

-- a list of scores within the limits: 4 to 4,096 of them, none above 4,096
pub record InLimits (s : List ℕ) : Type 0 where
  pub shortest : 4 ≤ length s
  pub longest : length s ≤ 4096
  pub entries : largest s ≤ 4096

-- there is a gap from entry k to the next, and it is narrow
abbrev pub narrow_at : ℕ → List ℕ → ℕ → Bool
narrow_at e l k = ltb (k + 1) (length l) && narrow_gap e (get_or l (k + 1) 0 - get_or l k 0)

-- the lines that remain after both drops, as a part of the lines
pub record Remains (e : ℕ) (lines : List ℕ) (from end : ℕ) : Type 0 where
  pub rising : from ≤ end
  pub inside : end ≤ length lines
  pub is : take (end - from) (drop from lines) ≡ drop_last e (drop_first e lines)
