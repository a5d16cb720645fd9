-- 01, "What the contracts carry": one statement on locating. On the same edge picture no walk scores more, and no offset and pitch get more
-- votes, than what locating hands back; what it hands back is scored by a walk and voted for, and ties go as 01 says.
use Rattle.std.specs.Prelude.{ℕ, ◌+◌, ◌-◌, ◌*◌, ◌≤◌, ◌<◌, ◌≡◌, false, List, Float, length, get_or, Result, Ok, Err}
use Rattle.board.specs.declared.Board.{Board}
use Rattle.bounds.specs.Bounds.{BoundsIn}
use Rattle.lanes.specs.Walk.{Walk, ends, Scores, ScoresAtMost}
use Rattle.strips.specs.Strip.{places, score_count}
use Rattle.lanes.specs.Score.{Place, at, on_strip}
use Rattle.votes.specs.Votes.{Wins}
use Rattle.lines.specs.Lines.{lines_of, estimate}
use Rattle.reading.specs.declared.Reading.{Reading}
use Rattle.reading.specs.Reading.{remaining, pitch_of, gap_answer, quarters_of}
use Rattle.locate.specs.declared.Located.{Located}
use Rattle.locate.specs.Reference.{Reference, Axis, column_axis, row_axis}
use Rattle.locate.specs.Locate.{Lent, checked, reference_for}

-- what is handed back of one axis: the score of each place, the offset, the quarters, the votes and the pitch
pub record Handed : Type 0 where
  pub score : ℕ → ℕ
  pub offset : ℕ
  pub quarter : ℕ
  pub votes : ℕ
  pub pitch : Float

-- column scores stand at the front of the score slice
abbrev pub columns_handed : Located → List ℕ → Handed
columns_handed r scores =
    record { score = λ i. get_or scores i 0; offset = r.board.c0; quarter = r.quarterc; votes = r.votesc; pitch = r.board.pixelc }

-- row scores stand behind so many column scores
abbrev pub rows_handed : ℕ → Located → List ℕ → Handed
rows_handed n r scores =
    record {
      score = λ i. get_or scores (n + i) 0;
      offset = r.board.r0;
      quarter = r.quarterr;
      votes = r.votesr;
      pitch = r.board.pixelr;
    }

-- scored place i of an axis
abbrev pub place_at : Axis → ℕ → Place
place_at a i = get_or (places a.low a.high) i (at 0 0)

-- one axis cannot be beaten
pub record Unbeaten (a : Axis) (x : Handed) : Type 0 where
  -- both spans are at least 4
  pub long : a.from + 4 ≤ a.to
  pub span : a.low + 4 ≤ a.high
  -- it has as many scores as 02, R-4, says, one for each place; these are handed back, and lines remain in them
  pub counted : length a.scores ≡ score_count a.low a.high
  pub placed : length (places a.low a.high) ≡ length a.scores
  pub handed : (i : ℕ) → i < length a.scores → x.score i ≡ get_or a.scores i 0
  pub lined : 0 < length (remaining a.scores)
  -- no walk on a strip that ends at a scored place scores more than that place's entry
  pub bounded : (i : ℕ) → i < length (places a.low a.high) → (walk : Walk (a.to - a.from)) → ends walk ≡ (place_at a i).lane
      → ScoresAtMost (on_strip a.picture a.from (place_at a i)) (place_at a i).lane walk (x.score i)
  -- and some walk that ends there scores exactly that
  pub attained : (i : ℕ) → i < length (places a.low a.high) → (walk : Walk (a.to - a.from))
      × (ends walk ≡ (place_at a i).lane)
      × Scores (on_strip a.picture a.from (place_at a i)) (place_at a i).lane walk (x.score i)
  -- the offset and q lie in the searched range of the list's lines and get exactly the votes handed back. Every other pair of the
  -- range gets at most as many, and one with as many has a larger offset, or the same offset and a larger q.
  pub wins : Wins (remaining a.scores) (estimate (lines_of a.scores))
      (record { votes = x.votes; offset = x.offset; quarter = x.quarter })
  pub pitch_is : x.pitch ≡ pitch_of x.quarter

-- the count of an accepted reading. Its q is the winner's, which is the one handed back: one pair alone wins.
abbrev pub count_in : Result (Reading ℕ) ℕ → ℕ
count_in (Ok r) = r.count
count_in (Err n) = 0

-- where the answer is 0: both corners and the counts are the rules', and columns and rows are unbeaten. The widened bounds lie in the edge
-- picture, which has a byte for each of its points, and the score slice has room for both lists: so no walk, no score and no line is taken
-- from past a list's end.
pub record Optimal (g : Reference) (r : Located) (scores : List ℕ) : Type 0 where
  pub inside : BoundsIn g.row g.column g.bounds
  pub whole : length g.edges ≡ g.row * g.column
  pub room : length g.columns + length g.rows ≤ length scores
  pub top_is : r.board.r_1 ≡ g.bounds.r_1
  pub left_is : r.board.c_1 ≡ g.bounds.c_1
  pub bottom_is : r.board.r_2 ≡ g.bounds.r_2
  pub right_is : r.board.c_2 ≡ g.bounds.c_2
  pub rows_are : r.board.r ≡ count_in (quarters_of g.rows)
  pub columns_are : r.board.c ≡ count_in (quarters_of g.columns)
  pub columns_unbeaten : Unbeaten (column_axis g) (columns_handed r scores)
  pub rows_unbeaten : Unbeaten (row_axis g) (rows_handed (length g.columns) r scores)

-- by the rules a board is read: the screen did not get too small, and the lines of both lists call for no refusal
pub record BoardFound (g : Reference) : Type 0 where
  pub large : g.last.too_small ≡ false
  pub columns_read : gap_answer (lines_of g.columns) ≡ 0
  pub rows_read : gap_answer (lines_of g.rows) ≡ 0

-- The promise, over the record, the factor and the slices as handed in, and what is handed back: the answer is 0 exactly where the checks
-- pass and a board is read by the rules, and then nobody who draws on the same edge picture does better.
pub record Promise (b : Board) (f : ℕ) (before : Lent) (r : Located) (after : Lent) : Type 0 where
  pub answered : (r.answer ≡ 0 → (checked b f before ≡ 0) × BoardFound (reference_for b f before))
      × (checked b f before ≡ 0 → BoardFound (reference_for b f before) → r.answer ≡ 0)
  pub optimal : r.answer ≡ 0 → Optimal (reference_for b f before) r after.scores
