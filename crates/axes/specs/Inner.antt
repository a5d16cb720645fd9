-- For the code alone: both axes of an edge picture over some bounds, what their scores and readings ask and leave. No contract of an
-- entry point reaches these.
use Rattle.std.specs.Prelude.{ℕ, ◌+◌, ◌-◌, ◌*◌, ◌≤◌, Bool, ◌≡◌, List, ◌++◌, Result, Ok, Err}
use Rattle.lists.specs.Front.{AtFront}
use Rattle.board.specs.declared.Bounds.{Bounds}
use Rattle.strips.specs.Strip.{column_scores, row_scores}
use Rattle.strips.specs.Inner.{place_count}
use Rattle.refusal.specs.Refusal.{numbered}
use Rattle.reading.specs.declared.Reading.{Reading}
use Rattle.reading.specs.Reading.{quarters_of}
use Rattle.reading.specs.Inner.{gap_number}
use Rattle.axes.specs.declared.Readings.{Readings}

-- how many scores both axes have
abbrev pub both_counts : Bounds → ℕ
both_counts b = place_count b.c_1 b.c_2 + place_count b.r_1 b.r_2

-- room for both score lists, for the turned picture of the rows, and for the scratch of a reading
pub record RoomFor (b : Bounds) (scores turned words : ℕ) : Type 0 where
  pub scores_in : both_counts b ≤ scores
  pub turned_in : (b.c_2 - b.c_1 + 1) * place_count b.r_1 b.r_2 ≤ turned
  pub words_in : 4 * both_counts b ≤ words

-- column scores, then row scores, at the front of the score slice, and what each list reads as
pub record ReadsAxes (E : ℕ → ℕ → Bool) (b : Bounds) (before : List ℕ) (r : Readings) (after : List ℕ) : Type 0 where
  pub columns_are : numbered gap_number r.columns ≡ quarters_of (column_scores E b)
  pub rows_are : numbered gap_number r.rows ≡ quarters_of (row_scores E b)
  pub scores_are : AtFront (column_scores E b ++ row_scores E b) before after

-- a reading whose numbers fit 32 bits; a refusal is 6 or 7
abbrev pub Fits32 : Result (Reading ℕ) ℕ → Type 0
Fits32 (Ok r) = (r.pitch ≤ 800) × (r.votes ≤ 4194304)
Fits32 (Err n) = (6 ≤ n) × (n ≤ 7)
