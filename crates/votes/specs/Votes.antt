-- 01, "Lines and votes", second paragraph: the searched range, the votes and the winner.
use Rattle.std.specs.Prelude.{ℕ, zero, suc, ◌+◌, ◌-◌, ◌*◌, ◌/◌, ◌≤◌, min, max, ◌≡◌, cond, List, [], ◌∷◌, eqb, ltb, get_or}
use Rattle.votes.specs.declared.Choice.{Choice}

-- the largest and the smallest pitch that is searched: 01's max and min
abbrev pub max_pitch : ℕ → ℕ
max_pitch e = min 200 (e + 5)

abbrev pub min_pitch : ℕ → ℕ
min_pitch e = max 8 (e - 5)

-- the largest offset that is searched: 7 past the first line
abbrev pub last_offset : List ℕ → ℕ
last_offset lines = get_or lines 0 0 + 7

-- the searched range, both ends with it
pub record Searched (lines : List ℕ) (e offset q : ℕ) : Type 0 where
  pub offset_in : offset ≤ last_offset lines
  pub above : 4 * min_pitch e ≤ q
  pub below : q ≤ 4 * max_pitch e

-- how often the two formulas l − ⌊n·q/4⌋ and l + 1 − ⌊n·q/4⌋ give the offset, for `count` values of n from `from` on
abbrev pub votes_of_line : ℕ → ℕ → ℕ → ℕ → ℕ → ℕ
votes_of_line l q offset from zero = 0
votes_of_line l q offset from (suc count) =
    cond (eqb (offset + from * q / 4) l) 1 0 + cond (eqb (offset + from * q / 4) (l + 1)) 1 0 + votes_of_line l q offset (suc from) count

-- the votes of an offset with a q: over every line l and every n from ⌊l/max⌋ to ⌊l/min⌋
abbrev pub votes : ℕ → List ℕ → ℕ → ℕ → ℕ
votes e [] offset q = 0
votes e (l ∷ lines) offset q = votes_of_line l q offset (l / max_pitch e) (suc (l / min_pitch e) - l / max_pitch e) + votes e lines offset q

-- the one with more votes, and the earlier one where they have as many
abbrev pub better : Choice → Choice → Choice
better a b = cond (ltb a.votes b.votes) b a

-- the best of `count` values of q from q on, with one offset
abbrev pub over_quarters : ℕ → List ℕ → ℕ → ℕ → ℕ → Choice → Choice
over_quarters e lines offset q zero best = best
over_quarters e lines offset q (suc count) best =
    over_quarters e lines offset (suc q) count (better best (record { votes = votes e lines offset q; offset = offset; quarter = q }))

-- the best of `count` offsets from `offset` on
abbrev pub over_offsets : ℕ → List ℕ → ℕ → ℕ → Choice → Choice
over_offsets e lines offset zero best = best
over_offsets e lines offset (suc count) best =
    over_offsets e lines (suc offset) count (over_quarters e lines offset (4 * min_pitch e) (suc (4 * max_pitch e) - 4 * min_pitch e) best)

-- most votes wins, then the smallest offset, then the smallest q
unfoldable pub winner : ℕ → List ℕ → Choice
winner e lines = over_offsets e lines 0 (suc (last_offset lines)) (record { votes = 0; offset = 0; quarter = 0 })

-- a is b or comes before it: more votes, or as many and the smaller offset, or the same offset too and the smaller q
pub record Ahead (a b : Choice) : Type 0 where
  pub votes : b.votes ≤ a.votes
  pub offset : b.votes ≡ a.votes → a.offset ≤ b.offset
  pub quarter : b.votes ≡ a.votes → b.offset ≡ a.offset → a.quarter ≤ b.quarter

-- the same said of a choice by itself: it is searched, its votes are counted from the lines, and it is ahead of every pair of the range
pub record Wins (lines : List ℕ) (e : ℕ) (w : Choice) : Type 0 where
  pub in_range : Searched lines e w.offset w.quarter
  pub counted : votes e lines w.offset w.quarter ≡ w.votes
  pub best : (offset q : ℕ) → Searched lines e offset q → Ahead w (record { votes = votes e lines offset q; offset = offset; quarter = q })
