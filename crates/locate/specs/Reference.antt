-- What locating is held to: by the rules of 01, "Locating", and 02, R-1, R-3 and R-4, from the factor, the sides and the planes as handed
-- in, and from nothing else.
use Rattle.std.specs.Prelude.{ℕ, ◌-◌, Bool, List, Float}
use Rattle.lists.specs.Picture.{flip}
use Rattle.board.specs.declared.Bounds.{Bounds}
use Rattle.bounds.specs.Bounds.{widen}
use Rattle.narrowings.specs.Loop.{Last, edges_at, picture_at, bounds_at, last_of}
use Rattle.strips.specs.Strip.{column_scores, row_scores}

pub record Reference : Type 0 where
  -- where the loop of narrowings ends
  pub last : Last
  -- the edge picture that is scored: its rows and columns, its bytes, and the picture that they hold
  pub row : ℕ
  pub column : ℕ
  pub edges : List ℕ
  pub picture : ℕ → ℕ → Bool
  -- its bounds, widened on it
  pub bounds : Bounds
  -- the scores of the columns, and of the rows
  pub columns : List ℕ
  pub rows : List ℕ

-- The picture that is scored is the last one, which the planes hold afterwards: all steps below the loop use its edge picture. Every
-- narrowing of the loop has the factor f.
unfoldable pub reference_of : ℕ → ℕ → ℕ → List Float → Reference
unfolding last_of
reference_of f h w planes =
    let last = last_of f h w planes in
    let scored = last.stage in
    let row = scored.height - 2 in
    let column = scored.width - 2 in
    let E = picture_at scored in
    let b = widen E row column (bounds_at scored) in
    record {
      last = last;
      row = row;
      column = column;
      edges = edges_at scored;
      picture = E;
      bounds = b;
      columns = column_scores E b;
      rows = row_scores E b;
    }

-- one axis: the strips of a picture over the rows `from` to `to`, at the columns `low` to `high`, and their scores
pub record Axis : Type 0 where
  pub picture : ℕ → ℕ → Bool
  pub from : ℕ
  pub to : ℕ
  pub low : ℕ
  pub high : ℕ
  pub scores : List ℕ

abbrev pub column_axis : Reference → Axis
column_axis g =
    let b = g.bounds in
    record { picture = g.picture; from = b.r_1; to = b.r_2; low = b.c_1; high = b.c_2; scores = g.columns }

-- rows are the columns of the flipped picture
abbrev pub row_axis : Reference → Axis
row_axis g =
    let b = g.bounds in
    record { picture = flip g.picture; from = b.c_1; to = b.c_2; low = b.r_1; high = b.r_2; scores = g.rows }
