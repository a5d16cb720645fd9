-- For the code alone: sampling without the checks of the planes, numbers that it may cast, and the values that it copies. No contract of
-- an entry point reaches these.
use Rattle.std.specs.Prelude.{ℕ, ◌*◌, ◌+◌, ◌≤◌, ◌≡◌, cond, List, [], eqb, Float, length, get_or}
use Rattle.std.specs.Float.{nan}
use Rattle.lists.specs.Front.{AtFront}
use Rattle.board.specs.declared.Board.{Board}
use Rattle.board.specs.Board.{most_size}
use Rattle.sample.specs.Sample.{most_number, cell_answer, cell}

-- the same without the checks of the planes
pub record CellGives (b : Board) (planes : List Float) (x y size : ℕ) (before : List Float) (answer : ℕ) (after : List Float)
    : Type 0 where
  pub answer_is : answer ≡ cell_answer b x y size (length before)
  pub out_is : AtFront (cond (eqb answer 0) (cell b planes x y size) []) before after

-- what a record that is fit shows of its numbers
pub record RecordIn (b : Board) : Type 0 where
  pub top_in : b.r_1 ≤ most_number
  pub left_in : b.c_1 ≤ most_number
  pub down_in : b.r0 ≤ most_number
  pub across_in : b.c0 ≤ most_number

-- one axis of a cell: its corner, offset, number and size are within their limits
pub record AxisIn (corner offset x size : ℕ) : Type 0 where
  pub corner_in : corner ≤ most_number
  pub offset_in : offset ≤ most_number
  pub number_in : x ≤ most_number
  pub size_in : size ≤ most_size

-- the values of a row at `columns`
abbrev pub row_value : List Float → List ℕ → ℕ → Float
row_value row columns j = get_or row (get_or columns j 0) nan

-- the values at `rows` and `columns` of a plane whose rows are `width` long
abbrev pub plane_value : List Float → ℕ → List ℕ → List ℕ → ℕ → ℕ → Float
plane_value plane width rows columns i j = get_or plane (get_or rows i 0 * width + get_or columns j 0) nan
