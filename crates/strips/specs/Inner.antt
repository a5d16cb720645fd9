-- For the code alone: what the two score lists ask, the border places, and a picture turned. No contract of an entry point reaches these.
use Rattle.std.specs.Prelude.{ℕ, ◌+◌, ◌-◌, ◌*◌, ◌≤◌, ◌<◌, Bool, ◌≡◌, List, length, get_or, set}
use Rattle.board.specs.declared.Bounds.{Bounds}
use Rattle.lanes.specs.Score.{at, score}
use Rattle.lanes.specs.Inner.{Marks}
use Rattle.strips.specs.Strip.{places}

-- what the two score lists ask: bounds within a packed picture of 0 and 1, sides of at most 4,094, both spans at least 4
pub record Scorable (edges : List ℕ) (stride : ℕ) (b : Bounds) : Type 0 where
  pub rows : b.r_1 + 4 ≤ b.r_2
  pub columns : b.c_1 + 4 ≤ b.c_2
  pub low : b.r_2 ≤ 4094
  pub wide : stride ≤ 4094
  pub inside : b.c_2 < stride
  pub whole : (b.r_2 + 1) * stride ≤ length edges
  pub marks : Marks edges

-- how many scored places there are
unfoldable pub place_count : ℕ → ℕ → ℕ
place_count c₁ c₂ = length (places c₁ c₂)

-- a list with the scores of target lanes k and k + 1 of one strip as entries i and i + 1
abbrev pub two_scores : (ℕ → ℕ → Bool) → ℕ → ℕ → ℕ → ℕ → ℕ → List ℕ → List ℕ
two_scores E from to c k i d = set (set d i (score E from to (at c k))) (i + 1) (score E from to (at c (k + 1)))

-- a list with the scores of the four border places: its first two entries, and the two from entry `last` on
abbrev pub bordered : (ℕ → ℕ → Bool) → ℕ → ℕ → ℕ → ℕ → ℕ → List ℕ → List ℕ
bordered E from to c₁ c₂ last d = two_scores E from to (c₂ - 4) 3 last (two_scores E from to c₁ 0 0 d)

-- a block of a picture, its first row at `first`, turned into rows of b bytes: its row d and column j stand in row j at place d
abbrev pub Turns : List ℕ → ℕ → ℕ → ℕ → ℕ → ℕ → List ℕ → Type 0
Turns e first stride b j d t = get_or t (j * b + d) 0 ≡ get_or e (first + d * stride + j) 0

-- w places from i on of row j are turned; all before and all behind is as it was
pub record RowTurned (e : List ℕ) (first stride b j i w : ℕ) (before after : List ℕ) : Type 0 where
  pub new : (d : ℕ) → d < w → Turns e first stride b j (i + d) after
  pub low : (k : ℕ) → k < j * b + i → get_or after k 0 ≡ get_or before k 0
  pub high : (k : ℕ) → j * b + (i + w) ≤ k → get_or after k 0 ≡ get_or before k 0

-- w places from i on of n rows are turned; the places before i are as they were
pub record RowsTurned (e : List ℕ) (first stride n b i w : ℕ) (before after : List ℕ) : Type 0 where
  pub new : (j d : ℕ) → j < n → d < w → Turns e first stride b j (i + d) after
  pub old : (j d : ℕ) → d < i → get_or after (j * b + d) 0 ≡ get_or before (j * b + d) 0

-- the first h places of each of n rows are turned
pub record Turned (e : List ℕ) (first stride n b h : ℕ) (t : List ℕ) : Type 0 where
  pub at : (j d : ℕ) → j < n → d < h → Turns e first stride b j d t
