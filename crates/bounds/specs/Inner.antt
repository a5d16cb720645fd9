-- For the code alone: a picture in the edge bytes, or in the bytes that gradients stand for, seen along one way. No contract of an entry
-- point reaches these.
use Rattle.std.specs.Prelude.{ℕ, ◌+◌, ◌*◌, ◌/◌, ◌^◌, ◌≤◌, ◌<◌, Bool, cond, ltb, List, Option, Some, None, Float, length}
use Rattle.lists.specs.Picture.{points}
use Rattle.edges.specs.Edges.{marks}
use Rattle.bounds.specs.declared.Layout.{Layout}
use Rattle.bounds.specs.declared.Way.{Way}
use Rattle.bounds.specs.Scan.{place}

-- the point at p across and at the distance m
unfoldable pub seen : Layout → List ℕ → ℕ → ℕ → Bool
seen l e p m = points l.down l.right e p (place l.way l.along m)

-- the edge bytes of gradients by a threshold
abbrev pub marks_by : Float → List Float → List ℕ
marks_by th g = marks th (length g) g

-- the middle third across, without `high`
abbrev pub low : Layout → ℕ
low l = l.across / 3

abbrev pub high : Layout → ℕ
high l = 2 * l.across / 3

-- the place p, if it is below hi
abbrev pub below : ℕ → ℕ → Option ℕ
below hi p = cond (ltb p hi) (Some p) None

-- a picture of at most 4,094 rows and columns, whose points are n bytes or gradients with the rows `stride` apart
pub record Fits (row column stride n : ℕ) : Type 0 where
  pub row_low : 1 ≤ row
  pub row_high : row ≤ 4094
  pub column_low : 1 ≤ column
  pub column_high : column ≤ 4094
  pub narrow : column ≤ stride
  pub all : row * stride ≤ n
  pub fits : n < 2 ^ 64

-- every point of the picture is one of n bytes or gradients, and it is at most 4,094 across
pub record Lies (l : Layout) (n : ℕ) : Type 0 where
  pub some_across : 1 ≤ l.across
  pub some_along : 1 ≤ l.along
  pub small : l.across ≤ 4094
  pub fits : n < 2 ^ 64
  pub inside : (p q : ℕ) → p < l.across → q < l.along → p * l.down + q * l.right < n

-- the columns and the rows of an edge picture whose rows are `stride` bytes long: rows are the columns of the flipped picture
abbrev pub columns_of : Way → ℕ → ℕ → ℕ → Layout
columns_of way row column stride = record { way = way; across = row; along = column; down = stride; right = 1 }

abbrev pub rows_of : Way → ℕ → ℕ → ℕ → Layout
rows_of way row column stride = record { way = way; across = column; along = row; down = 1; right = stride }
