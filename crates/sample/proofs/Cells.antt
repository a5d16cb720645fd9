-- The values that the code copies are those of the cell: each has its place in the planes, and follows the cell's rule. Assumes nothing.
use Prim.Native.Nat.{ℕ, ◌+◌, ◌-◌, ◌*◌, ◌/◌, ◌%◌, ◌≤◌, ◌<◌}
use mathlib.Core.Path.{◌≡◌, ◌∙◌}
use mathlib.Core.List.{List}
use native.Mathlib.Omega.{arith}
use lib.Arith.{digits_lt}
use lib.Ieee.{Float, nan}
use lib.ListN.{length, get_or, take, drop, length-drop}
use lib.Seq.{get_or-take, get_or-drop, length-take-le}
use borrow.Rule.Slice.PartMut.{mid_of, mid_len}
use Rattle.lists.specs.Tab.{tab, grid}
use Rattle.lists.proofs.Tab.{tab_same}
use Rattle.lists.proofs.Grid.{row_column, row_fits}
use Rattle.board.specs.declared.Board.{Board}
use Rattle.board.specs.Board.{most_size}
use Rattle.board.specs.Screen.{view}
use Rattle.sample.specs.Sample.{sampled_at, row_at, column_at}
use Rattle.sample.specs.Inner.{row_value, plane_value}
use Rattle.sample.proofs.Answers.{CellIn}

-- plane k of the cell, by the place in it
abbrev pub cell_plane : Board → List Float → ℕ → ℕ → ℕ → ℕ → ℕ → Float
cell_plane b planes x y size k n = (view b.height b.width planes).px k (row_at b x size (n / size)) (column_at b y size (n % size))

-- the places of a cell that is answered with 0
pub record PlacesAre (b : Board) (x y size room : ℕ) (rows columns : List ℕ) : Type 0 where
  pub fit : CellIn b x y size room
  pub rows_length : length rows ≡ size
  pub columns_length : length columns ≡ size
  pub rows_are : (i : ℕ) → i < size → get_or rows i 0 ≡ row_at b x size i
  pub columns_are : (j : ℕ) → j < size → get_or columns j 0 ≡ column_at b y size j

-- what both axes of the cell give, at the front of longer lists
pub places_are : {b : Board} {x y size room : ℕ} {k l m n k' l' m' n' : ℕ} {p p' : Float} (rows columns : List ℕ) → CellIn b x y size room
    → length rows ≡ most_size
    → length columns ≡ most_size
    → (k ≡ b.r_1) × (l ≡ b.r0) × (p ≡ b.pixelr) × (m ≡ x) × (n ≡ size)
    → ((i : ℕ) → i < n → get_or rows i 0 ≡ sampled_at k l p m n i)
    → (k' ≡ b.c_1) × (l' ≡ b.c0) × (p' ≡ b.pixelc) × (m' ≡ y) × (n' ≡ size)
    → ((j : ℕ) → j < n' → get_or columns j 0 ≡ sampled_at k' l' p' m' n' j)
    → PlacesAre b x y size room (take size rows) (take size columns)
places_are {size = size} rows columns fit long wide e r e' c =
    let in_limits = fit.down_in.size_in in
    let down = rw (e.0, e.1, e.2, e.3, e.4) at r in
    let across = rw (e'.0, e'.1, e'.2, e'.3, e'.4) at c in
    record {
      fit = fit;
      rows_length = length-take-le size rows (omega arith);
      columns_length = length-take-le size columns (omega arith);
      rows_are = λ i h. get_or-take size rows i 0 h ∙ down i h;
      columns_are = λ j h. get_or-take size columns j 0 h ∙ across j h;
    }

-- a row of a plane, as a part of it
pub row_is : (plane : List Float) (width : ℕ) (rows columns : List ℕ) (i : ℕ)
    → ((j : ℕ) → j < length columns → get_or columns j 0 < width)
    → (let from = get_or rows i 0 * width in
    tab (length columns) (row_value (take (from + width - from) (drop from plane)) columns)
    ≡ tab (length columns) (plane_value plane width rows columns i))
row_is plane width rows columns i within =
    let from = get_or rows i 0 * width in
    tab_same (length columns) _ (plane_value plane width rows columns i)
    (λ j h. get_or-take (from + width - from) (drop from plane) _ nan (omega (arith, within j h)) ∙ get_or-drop from plane _ nan)

-- each plane of the cell has a place in the output
pub plane_fits : {b : Board} {x y size room : ℕ} → CellIn b x y size room → (k : ℕ) → k < 3 → k * (size * size) + size * size ≤ room
plane_fits {size = size} fit k k-in = omega (arith, row_fits k 3 (size * size) k-in, fit.output)

-- plane k of the planes of a picture
abbrev pub plane_of : Board → List Float → ℕ → List Float
plane_of b planes k = let n = b.height * b.width in take (k * n + n - k * n) (drop (k * n) planes)

module _ {b : Board} {x y size room : ℕ} {rows columns : List ℕ} (planes : List Float) (p : PlacesAre b x y size room rows columns) where
  pub row_in : (k i : ℕ) → 3 * (b.height * b.width) ≤ length planes → k < 3 → i < length rows
      → get_or rows i 0 * b.width + b.width ≤ length (plane_of b planes k)
  row_in k i long k-in i-in =
      let n = b.height * b.width in
      let down = rw p.rows_length at i-in in
      let whole : length (plane_of b planes k) ≡ k * n + n - k * n =
      length-take-le (k * n + n - k * n) (drop (k * n) planes) (omega (arith, length-drop (k * n) planes, row_fits k 3 n k-in)) in
      rw (p.rows_are i down) (omega (arith, whole, row_fits (row_at b x size i) b.height b.width (p.fit.rows i down)))

  pub column_in : (j : ℕ) → j < length columns → get_or columns j 0 < b.width
  column_in j j-in = let across = rw p.columns_length at j-in in rw (p.columns_are j across) (p.fit.columns j across)

  pub plane_is : (k : ℕ) → grid (length rows) (length columns) (plane_value (plane_of b planes k) b.width rows columns)
      ≡ tab (size * size) (cell_plane b planes x y size k)
  plane_is k =
      let n = b.height * b.width in
      rw (p.rows_length, p.columns_length)
      (tab_same (size * size) _ (cell_plane b planes x y size k)
      (λ m m-in.
      let at = row_column size size m m-in in
      rw (p.rows_are (m / size) at.0, p.columns_are (m % size) at.1)
      (get_or-take (k * n + n - k * n) (drop (k * n) planes) _ nan
      (omega (arith, digits_lt (p.fit.rows (m / size) at.0) (p.fit.columns (m % size) at.1)))
      ∙ get_or-drop (k * n) planes _ nan)))

  -- its values are as many as the part of the output that it is lent
  pub plane_room : (out : List Float) (k : ℕ) → k < 3 → length out ≡ room
      → (let m = size * size in length (mid_of (k * m) (k * m + m - k * m) out) ≡ length rows * length columns)
  plane_room out k k-in e =
      let m = size * size in
      rw (p.rows_length, p.columns_length)
      (mid_len (k * m) (k * m + m) out (omega (arith, plane_fits p.fit k k-in, e)) ∙ omega arith)
