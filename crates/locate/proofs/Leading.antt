-- What follows a loop that ended well: what its steps ask. Assumes nothing.
use Prim.Native.Nat.{ℕ, ◌+◌, ◌-◌, ◌*◌, ◌≤◌}
use mathlib.Core.Path.{◌≡◌}
use mathlib.Core.List.{List}
use native.Mathlib.Nat.{mul-le-mul, mul-le-mul_right, mul_comm}
use native.Mathlib.Omega.{arith}
use lib.ListN.{length, take}
use lib.Seq.{length-take-le}
use Rattle.lists.specs.Picture.{points}
use Rattle.board.specs.declared.Bounds.{Bounds}
use Rattle.bounds.specs.Bounds.{widen}
use Rattle.bounds.proofs.Laws.{Wide}
use Rattle.bounds.proofs.Laws as Laws
use Rattle.narrowings.specs.declared.Narrowed.{Narrowed}
use Rattle.strips.specs.Inner.{place_count, Scorable}
use Rattle.strips.proofs.Scores.{count_most}
use Rattle.axes.specs.Inner.{RoomFor}
use Rattle.locate.specs.Inner.{Leads}

module _ {l : Narrowed} {edges : List ℕ} {scores u8 u32 : ℕ} (g : Leads l edges scores u8 u32) where
  abbrev row : ℕ
  row = l.height - 2

  abbrev column : ℕ
  column = l.width - 2

  -- the edge picture of the last picture
  abbrev picture : List ℕ
  picture = take (row * column) edges

  pub picture_length : length picture ≡ row * column
  picture_length = length-take-le (row * column) edges g.there

  -- its bounds, widened on it
  abbrev widened : Bounds
  widened = widen (points column 1 picture) row column l.bounds

  wide_enough : Wide row column widened
  wide_enough = Laws.wide (points column 1 picture) (omega (arith, g.low_h)) (omega (arith, g.low_w)) g.within g.rows g.columns

  pub scorable : Scorable picture column widened
  scorable =
      let e = wide_enough in
      let rows_in : widened.r_2 + 1 ≤ row = omega (arith, e.row_end) in
      record {
        rows = e.rows;
        columns = e.columns;
        low = omega (arith, e.row_end, g.high_h);
        wide = omega (arith, g.high_w);
        inside = e.column_end;
        whole = omega (arith, picture_length, mul-le-mul_right column rows_in);
        marks = g.marks;
      }

  -- an axis has no more places than the picture has columns, or rows
  columns_few : place_count widened.c_1 widened.c_2 ≤ l.width
  columns_few = let e = wide_enough in omega (arith, count_most widened.c_1 widened.c_2 e.columns, e.column_end)

  rows_few : place_count widened.r_1 widened.r_2 ≤ l.height
  rows_few = let e = wide_enough in omega (arith, count_most widened.r_1 widened.r_2 e.rows, e.row_end)

  pub room_for : RoomFor widened scores u8 u32
  room_for =
      let e = wide_enough in
      let a : widened.c_2 - widened.c_1 + 1 ≤ l.width = omega (arith, e.column_end) in
      record {
        scores_in = omega (arith, columns_few, rows_few, g.scores_in);
        turned_in = omega (arith, mul-le-mul a rows_few, mul_comm l.width l.height, g.u8_in);
        words_in = omega (arith, columns_few, rows_few, g.u32_in);
      }
