-- For the code alone: planes that it may read, and the length of a text from its counts. No contract of an entry point reaches these.
use Rattle.std.specs.Prelude.{ℕ, ◌+◌, ◌*◌, ◌≤◌, List, [], ◌∷◌, Float, length}
use Rattle.text.specs.Text.{numbers_line}
use Rattle.board.specs.declared.Board.{Board}
use Rattle.board.specs.Board.{least_plane_side}
use Rattle.board.specs.Inner.{FitPlanes}
use Rattle.sample.specs.Inner.{RecordIn}
use Rattle.map.specs.Map.{line_width, most_rows, names_line}

-- what printing needs of a record and its planes
pub record Printable (b : Board) (planes : List Float) : Type 0 where
  pub record_in : RecordIn b
  pub planes_fit : FitPlanes least_plane_side b.height b.width planes
  pub columns_in : b.c ≤ line_width
  pub rows_in : b.r ≤ most_rows

-- the bytes of a text with so many rows and columns
abbrev pub text_length : ℕ → ℕ → ℕ
text_length r c = length names_line + (length (numbers_line (r ∷ c ∷ [])) + r * (line_width + 1))
