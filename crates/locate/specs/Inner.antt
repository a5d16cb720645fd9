-- For the code alone: what its inner steps ask and leave. No contract of an entry point reaches these.
use Rattle.std.specs.Prelude.{ℕ, ◌+◌, ◌-◌, ◌*◌, ◌/◌, ◌≤◌, ◌<◌, ◌≡◌, Bool, List, ◌++◌, length, get_or, take}
use Rattle.lists.specs.Front.{AtFront}
use Rattle.lists.specs.Picture.{points}
use Rattle.board.specs.declared.Board.{Board}
use Rattle.board.specs.declared.Bounds.{Bounds}
use Rattle.board.specs.Board.{resized}
use Rattle.bounds.specs.Bounds.{BoundsIn, widen}
use Rattle.narrowings.specs.declared.Narrowed.{Narrowed}
use Rattle.strips.specs.Strip.{column_scores, row_scores}
use Rattle.reading.specs.Reading.{quarters_of}
use Rattle.locate.specs.declared.Located.{Located}
use Rattle.locate.specs.Locate.{Lent, joined, found, scores_of, reference_for}

-- every slice beside the planes is long enough
pub record NoneShort (h w : ℕ) (s : Lent) : Type 0 where
  pub edges_in : h * w ≤ length s.edges
  pub scores_in : h + w ≤ length s.scores
  pub f32_in : h * w ≤ length s.scratch_f32
  pub u8_in : h * w ≤ length s.scratch_u8
  pub u32_in : 4 * (h + w) ≤ length s.scratch_u32

-- where the loop ended well: the bounds of the last picture are not thin, its edge picture is there, and there is room for the rest
pub record Leads (l : Narrowed) (edges : List ℕ) (scores u8 u32 : ℕ) : Type 0 where
  pub low_h : 12 ≤ l.height
  pub high_h : l.height ≤ 4096
  pub low_w : 12 ≤ l.width
  pub high_w : l.width ≤ 4096
  pub within : BoundsIn (l.height - 2) (l.width - 2) l.bounds
  pub rows : (l.height - 2) / 3 < l.bounds.r_2 - l.bounds.r_1
  pub columns : (l.width - 2) / 3 < l.bounds.c_2 - l.bounds.c_1
  pub there : (l.height - 2) * (l.width - 2) ≤ length edges
  pub marks : (k : ℕ) → get_or (take ((l.height - 2) * (l.width - 2)) edges) k 0 ≤ 1
  pub scores_in : l.height + l.width ≤ scores
  pub u8_in : l.height * l.width ≤ u8
  pub u32_in : 4 * (l.height + l.width) ≤ u32

-- the scores of the picture E over the bounds, and what their readings make of the record
pub record ReadsOn (E : ℕ → ℕ → Bool) (b : Board) (narrowed : ℕ) (bounds : Bounds) (before : List ℕ) (r : Located) (after : List ℕ)
    : Type 0 where
  pub located_is : r ≡ joined b narrowed bounds (quarters_of (column_scores E bounds)) (quarters_of (row_scores E bounds))
  pub scores_are : AtFront (column_scores E bounds ++ row_scores E bounds) before after

-- the same with the bounds of the last picture, widened on its edge picture
abbrev pub ReadsFrom : Board → Narrowed → List ℕ → List ℕ → Located → List ℕ → Type 0
ReadsFrom b l edges before r after =
    let E = points (l.width - 2) 1 edges in
    ReadsOn E (resized b l.height l.width) l.narrowed (widen E (l.height - 2) (l.width - 2) l.bounds) before r after

-- what the work leaves where the checks passed
pub record Works (b : Board) (f : ℕ) (before : Lent) (r : Located) (after : Lent) : Type 0 where
  pub located_is : r ≡ found b (reference_for b f before)
  pub planes_are : after.planes ≡ (reference_for b f before).last.stage.planes
  pub edges_are : AtFront (reference_for b f before).edges before.edges after.edges
  pub scores_are : AtFront (scores_of (reference_for b f before)) before.scores after.scores
