-- One axis of the promise: an accepted reading of its scores is unbeaten. Assumes nothing.
use Prim.Native.Nat.{ℕ, ◌+◌, ◌≤◌, ◌<◌}
use mathlib.Core.Path.{◌≡◌, refl, sym, ap, ◌∙◌}
use mathlib.Core.List.{List}
use lib.ListN.{length, get_or}
use Rattle.lanes.specs.Score.{score}
use Rattle.lanes.proofs.Walks.{no_better, attained}
use Rattle.strips.specs.Strip.{places, scores, EachColumn}
use Rattle.strips.proofs.Scores.{count_is, length_scores, score_at}
use Rattle.strips.proofs.Columns.{each_column}
use Rattle.lines.specs.Inner.{InLimits}
use Rattle.std.specs.Prelude.{Result, Ok, Err}
use Rattle.reading.specs.declared.Reading.{Reading}
use Rattle.reading.specs.Reading.{remaining, pitch_of, quarters_of}
use Rattle.reading.proofs.Laws.{by_outcome, won}
use Rattle.locate.specs.Reference.{Axis}
use Rattle.locate.specs.Promise.{Unbeaten, place_at}

-- where a list is read, lines remain
abbrev Lined : List ℕ → Result (Reading ℕ) ℕ → Type 0
Lined s (Ok r) = 0 < length (remaining s)
Lined s (Err n) = Unit

lined : (s : List ℕ) → InLimits s → Lined s (quarters_of s)
lined s f = by_outcome (Lined s) s f tt tt (λ r. r.some)

module _ (a : Axis) (is : a.scores ≡ scores a.picture a.from a.to a.low a.high)
    (long : a.from + 4 ≤ a.to) (wide : a.low + 4 ≤ a.high) where
  -- a score for each place
  pub scores_long : length a.scores ≡ length (places a.low a.high)
  scores_long = ap length is ∙ length_scores a.picture _ _ _ _ ∙ count_is a.low a.high

  placed : EachColumn a.low a.high
  placed = each_column a.low a.high wide

  pub unbeaten : (entry : ℕ → ℕ) (r : Reading ℕ) → InLimits a.scores
      → ((i : ℕ) → i < length (places a.low a.high) → entry i ≡ get_or a.scores i 0)
      → quarters_of a.scores ≡ Ok r
      → Unbeaten a (record { score = entry; offset = r.offset; quarter = r.pitch; votes = r.votes; pitch = pitch_of r.pitch })
  unbeaten entry r fit same e =
      record {
        long = long;
        span = wide;
        counted = scores_long ∙ placed.counted;
        placed = sym scores_long;
        handed = λ i l. same i (rw scores_long at l);
        lined = rw e at (lined a.scores fit);
        bounded = λ i l walk w. rw (here i l) (no_better a.picture a.from a.to (place_at a i) walk w);
        attained = λ i l. rw (here i l) (attained a.picture a.from a.to (place_at a i) (lane i l));
        wins = rw e at (won a.scores fit);
        pitch_is = refl;
      }
    where
      lane : (i : ℕ) → i < length (places a.low a.high) → (place_at a i).lane ≤ 4
      lane i l = (placed.in_order i (rw placed.counted at l)).is_on_strip

      -- the entry of a place is its score
      here : (i : ℕ) → i < length (places a.low a.high) → entry i ≡ score a.picture a.from a.to (place_at a i)
      here i l = same i l ∙ rw is (score_at a.picture a.from a.to a.low a.high i (rw (count_is a.low a.high) l))
