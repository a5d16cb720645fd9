-- Each cell of a board is what sampling it alone gives: what callers read a board's values by. Assumes nothing.
use Prim.Native.Nat.{ℕ, ◌+◌, ◌*◌, ◌/◌, ◌%◌, ◌<◌}
use mathlib.Core.Path.{◌≡◌, refl, sym, ◌∙◌}
use mathlib.Core.List.{List}
use borrow.Author.Tests.{ne_eqb}
use lib.Arith.{digits_lt, digits_div, digits_mod}
use lib.Ieee.{Float, nan}
use Rattle.lists.proofs.Grid.{row_column}
use Rattle.lists.proofs.Turn.{entry_in_turn}
use Rattle.board.specs.declared.Board.{Board}
use Rattle.sample.specs.Sample.{sample_answer}
use Rattle.sample.specs.Fit.{fit_answer}
use Rattle.sample.proofs.Answers.{passed_both}
use Rattle.sample.proofs.Fit.{fit_told, unfit_refused}
use Rattle.cells.specs.Cells.{cells, cells_answer, board_answer, CellsAreSamples}
use Rattle.cells.proofs.Cells.{cells_in, cells_out, one_outside, nth_answer, nth_outside, nth_cell, nth_length, cells_length}

cell_place : (b : Board) (x y : ℕ) → y < b.c → ((x * b.c + y) / b.c ≡ x) × ((x * b.c + y) % b.c ≡ y)
cell_place b x y h = (digits_div x h, digits_mod x h)

-- of any board and size
pub cells_are_samples : (b : Board) (planes : List Float) (size room : ℕ) → CellsAreSamples b planes size room
unfolding cells board_answer sample_answer
cells_are_samples b planes size room =
    let m = 3 * (size * size) in
    record {
      sampled =
          λ e x y values x-in y-in long.
          let p = passed_both (fit_answer b planes) (cells_answer b size room) e in
          let f = fit_told b planes p.0 in
          let i = cells_in b size room p.1 in
          let at = cell_place b x y y-in in
          let answer = nth_answer b size (x * b.c + y) values f.1 i.counts i.within (digits_lt x-in y-in) long in
          rw f.0 (rw (at.0, at.1) at answer);
      values_are =
          λ x y k x-in y-in k-in.
          let at = cell_place b x y y-in in
          entry_in_turn m (nth_cell b planes size) (nth_length b planes size) nan (b.r * b.c) (x * b.c + y) k (digits_lt x-in y-in) k-in
          ∙ rw (at.0, at.1) refl;
      length_is = cells_length b planes size;
      outside =
          λ fit e.
          let f = fit_told b planes fit in
          let o = cells_out b size room (rw fit at e) in
          let one = one_outside b size o.1 in
          let at = row_column b.r b.c one.0 one.1 in
          (one.0 / b.c, one.0 % b.c, at.0, at.1, rw f.0 (nth_outside b size one.0 f.1 o.0 one.1 one.2));
      refused = λ x y values e. rw (ne_eqb (fit_answer b planes) 0 e) (sym (unfit_refused b planes x y size values e));
    }
