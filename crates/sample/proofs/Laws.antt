-- A cell always fits 1,728 values (02, R-2): what callers size an output by. Assumes nothing.
use Prim.Native.Nat.{ℕ, ◌*◌, ◌≤◌}
use mathlib.Core.Path.{◌≡◌, refl, ap}
use mathlib.Core.Bool.{Bool, true, false, cond}
use mathlib.Core.List.{List}
use native.Mathlib.Omega.{arith}
use borrow.Author.Tests.{le-ltb}
use lib.Dec.{eqb}
use lib.Ieee.{Float}
use lib.ListN.{length}
use Rattle.lists.proofs.Tab.{length_tab_from}
use Rattle.board.specs.declared.Board.{Board}
use Rattle.board.specs.Board.{least_plane_side}
use Rattle.board.specs.Planes.{planes_answer}
use Rattle.sample.specs.Sample.{numbers_above, cell_answer, sample_answer, cell, most_cell_values, CellFits}
use Rattle.sample.proofs.Answers.{passed_both, numbers_in, cell_in}

-- with room for the largest cell, more of it decides nothing
room_same : (b : Board) (x y size room : ℕ) → most_cell_values ≤ room
    → cell_answer b x y size room ≡ cell_answer b x y size most_cell_values
unfolding cell_answer
room_same b x y size room long = go (numbers_above x y size) refl
  where
    go : (t : Bool) → numbers_above x y size ≡ t → cell_answer b x y size room ≡ cell_answer b x y size most_cell_values
    go true e = rw e
    go false e =
        let fits = (numbers_in x y size e).fits in
        rw (e, le-ltb room (3 * (size * size)) (omega (arith, fits, long)), le-ltb most_cell_values (3 * (size * size)) fits)

-- of any record and planes, any cell, and any size
pub cell_fits : (b : Board) (planes : List Float) (x y size : ℕ) → CellFits b planes x y size
unfolding sample_answer
cell_fits b planes x y size =
    let first = planes_answer least_plane_side b.height b.width planes false in
    record {
      largest = refl;
      values_fit =
          λ room e.
          let values : length (cell b planes x y size) ≡ 3 * (size * size) = length_tab_from 0 (3 * (size * size)) _ in
          rw values (cell_in b x y size room (passed_both first (cell_answer b x y size room) e).1).fits;
      room_enough = λ room long. ap (λ (n : ℕ). cond (eqb first 0) n first) (room_same b x y size room long);
    }
