-- 02, R-5: where both corners lie in the record that a call of locating hands back.
use Rattle.std.specs.Prelude.{◌+◌, ◌≤◌, ◌<◌, ◌≡◌}
use Rattle.board.specs.declared.Board.{Board}
use Rattle.locate.specs.declared.Located.{Located}

-- r_1 < r_2 < height and c_1 < c_2 < width
pub record CornersIn (b : Board) : Type 0 where
  pub rows : b.r_1 < b.r_2
  pub row_end : b.r_2 < b.height
  pub columns : b.c_1 < b.c_2
  pub column_end : b.c_2 < b.width

-- over the record as given and what is handed back
pub record CornersHold (b : Board) (r : Located) : Type 0 where
  -- a record from locating with answer 0 has this
  pub located : r.answer ≡ 0 → CornersIn r.board
  -- each call that leaves the sides unchanged passes it on; one that is refused after a narrowing has other sides, and need not
  pub passed_on : r.board.height ≡ b.height → r.board.width ≡ b.width → CornersIn b → CornersIn r.board
  -- with answer 0 there is more room: r_1 + 4 ≤ r_2 ≤ height − 3 and c_1 + 4 ≤ c_2 ≤ width − 3, so that the far corner lies in the edge
  -- picture
  pub rows_wide : r.answer ≡ 0 → (r.board.r_1 + 4 ≤ r.board.r_2) × (r.board.r_2 + 3 ≤ r.board.height)
  pub columns_wide : r.answer ≡ 0 → (r.board.c_1 + 4 ≤ r.board.c_2) × (r.board.c_2 + 3 ≤ r.board.width)
