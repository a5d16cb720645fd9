-- 01, "Path scores", with 02, R-4: the scored places and the score lists. Rows are the columns of the flipped picture.
use Rattle.std.specs.Prelude.{ℕ, ◌+◌, ◌-◌, ◌≤◌, ◌<◌, min, max, ◌≡◌, Bool, List, [], ◌∷◌, ◌++◌, map, length, get_or}
use Rattle.lists.specs.Tab.{tab}
use Rattle.lists.specs.Picture.{flip}
use Rattle.board.specs.declared.Bounds.{Bounds}
use Rattle.lanes.specs.Score.{Place, at, score}

-- the scored places of columns c_1 to c_2, in the order of their scores. The last strip with target lane 2 is the one from c_2 − 4 (R-4).
abbrev pub places : ℕ → ℕ → List Place
places c₁ c₂ =
    (at c₁ 0 ∷ at c₁ 1 ∷ []) ++ (tab (c₂ - c₁ - 3) (λ i. at (c₁ + i) 2) ++ (at (c₂ - 4) 3 ∷ at (c₂ - 4) 4 ∷ []))

-- so columns c_1 to c_2 have c_2 − c_1 + 1 scores
abbrev pub score_count : ℕ → ℕ → ℕ
score_count c₁ c₂ = c₂ - c₁ + 1

-- the place of column c: on the strip that has c in its middle, or on the first or the last one of columns c_1 to c_2, the lane that is c
pub record PlaceOf (c₁ c₂ c : ℕ) (p : Place) : Type 0 where
  pub strip_is : p.strip ≡ max c₁ (min (c - 2) (c₂ - 4))
  pub column_is : p.strip + p.lane ≡ c
  pub is_on_strip : p.lane ≤ 4

-- each column from c_1 to c_2 has one score, and they are in order: entry i is that of column c_1 + i
pub record EachColumn (c₁ c₂ : ℕ) : Type 0 where
  pub counted : length (places c₁ c₂) ≡ score_count c₁ c₂
  pub in_order : (i : ℕ) → i < score_count c₁ c₂ → PlaceOf c₁ c₂ (c₁ + i) (get_or (places c₁ c₂) i (at 0 0))

unfoldable pub scores : (ℕ → ℕ → Bool) → ℕ → ℕ → ℕ → ℕ → List ℕ
scores E from to c₁ c₂ = map (score E from to) (places c₁ c₂)

abbrev pub column_scores : (ℕ → ℕ → Bool) → Bounds → List ℕ
column_scores E b = scores E b.r_1 b.r_2 b.c_1 b.c_2

abbrev pub row_scores : (ℕ → ℕ → Bool) → Bounds → List ℕ
row_scores E b = scores (flip E) b.c_1 b.c_2 b.r_1 b.r_2
