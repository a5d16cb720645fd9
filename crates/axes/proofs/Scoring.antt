-- The score lists of both axes in one slice, each of which can be read, and the numbers of a reading. Assumes nothing.
use Prim.Native.Nat.{ℕ, ◌+◌, ◌-◌, ◌≤◌}
use mathlib.Core.Path.{◌≡◌, sym, ◌∙◌}
use mathlib.Core.Bool.{Bool}
use mathlib.Core.List.{List, ◌++◌, append_assoc}
use native.Mathlib.Omega.{arith}
use lib.ListN.{length, take, drop}
use lib.Seq.{take_at, drop_at}
use Rattle.lists.specs.Front.{AtFront}
use Rattle.lists.specs.Picture.{flip}
use Rattle.board.specs.declared.Bounds.{Bounds}
use Rattle.strips.specs.Strip.{scores, column_scores, row_scores}
use Rattle.strips.specs.Inner.{place_count, Scorable}
use Rattle.strips.proofs.Scores.{length_scores, scores_most, count_least, count_most}
use Rattle.lines.specs.Inner.{InLimits}
use Rattle.lines.proofs.Windows.{largest_le}
use Rattle.votes.specs.Votes.{winner}
use Rattle.votes.proofs.Row.{votes_few}
use Rattle.lines.specs.Lines.{lines_of, estimate}
use Rattle.reading.specs.Reading.{remaining, quarters_of}
use Rattle.reading.proofs.Laws.{by_outcome, readable_wins}
use Rattle.axes.specs.Inner.{Fits32}

-- a score list can be read
pub scores_fit : (E : ℕ → ℕ → Bool) (from to c₁ c₂ : ℕ) → c₁ + 4 ≤ c₂ → c₂ ≤ 4095 → to ≤ 4096 → InLimits (scores E from to c₁ c₂)
scores_fit E from to c₁ c₂ span high most =
    let n = length_scores E from to c₁ c₂ in
    record {
      shortest = omega (arith, n, count_least c₁ c₂ span);
      longest = omega (arith, n, count_most c₁ c₂ span);
      entries = largest_le (scores E from to c₁ c₂) 4096 (λ i h. omega (arith, scores_most E from to c₁ c₂ i));
    }

-- the numbers of a reading fit 32 bits
pub quarters_fit : (s : List ℕ) → InLimits s → Fits32 (quarters_of s)
quarters_fit s f =
    by_outcome Fits32 s f (omega arith, omega arith) (omega arith, omega arith)
    (λ r.
    let w = readable_wins r in
    let e = estimate (lines_of s) in
    let c = winner e (remaining s) in
    (omega (arith, w.in_range.below), omega (arith, w.counted, r.few, votes_few e (remaining s) c.quarter r.entries c.offset)))

-- what the readings find in the score slice
module _ (E : ℕ → ℕ → Bool) (b : Bounds) {before after : List ℕ} (x : AtFront (column_scores E b ++ row_scores E b) before after) where
  across_length : length (column_scores E b) ≡ place_count b.c_1 b.c_2
  across_length = length_scores E _ _ _ _

  down_length : length (row_scores E b) ≡ place_count b.r_1 b.r_2
  down_length = length_scores (flip E) _ _ _ _

  is : after ≡ column_scores E b ++ (row_scores E b ++ drop (length (column_scores E b ++ row_scores E b)) before)
  is = x.is ∙ append_assoc (column_scores E b) (row_scores E b) _

  -- the parts by their numbers of entries
  module _ {n m : ℕ} (across : n ≡ place_count b.c_1 b.c_2) (down : m ≡ place_count b.r_1 b.r_2) where
    pub across_part : take n after ≡ column_scores E b
    across_part = rw is (take_at (column_scores E b) _ n (across_length ∙ sym across))

    pub down_part : take (n + m - n) (drop n after) ≡ row_scores E b
    down_part =
        let k : n + m - n ≡ m = omega arith in
        rw (k, is, drop_at (column_scores E b) _ n (across_length ∙ sym across)) (take_at (row_scores E b) _ m (down_length ∙ sym down))

  -- both can be read
  module _ {edges : List ℕ} {stride : ℕ} (s : Scorable edges stride b) where
    pub across_fit : InLimits (column_scores E b)
    across_fit = scores_fit E _ _ _ _ s.columns (omega (arith, s.inside, s.wide)) (omega (arith, s.low))

    pub down_fit : InLimits (row_scores E b)
    down_fit = scores_fit (flip E) _ _ _ _ s.rows (omega (arith, s.low)) (omega (arith, s.inside, s.wide))
