-- The score lists fit the slices that a call asks for (02, R-4): an axis has two scores fewer than the screen has columns, or rows, at most.
-- Assumes nothing.
use Prim.Native.Nat.{ℕ, ◌+◌, ◌≤◌, ◌<◌}
use mathlib.Core.Path.{◌≡◌, sym, ap, ◌∙◌}
use mathlib.Core.Bool.{false}
use native.Mathlib.Omega.{arith}
use lib.ListN.{length}
use Rattle.board.specs.declared.Board.{Board}
use Rattle.strips.specs.Strip.{scores}
use Rattle.strips.proofs.Scores.{length_scores, count_most}
use Rattle.reading.proofs.Answers.{fit_answer_lem}
use Rattle.locate.specs.Reference.{Reference, Axis, column_axis, row_axis}
use Rattle.locate.specs.Locate.{Lent, checked, reference_for, ListsFit}
use Rattle.locate.proofs.Checks.{fit}
use Rattle.locate.proofs.Scored.{Scored, scored_where, sides_in, last_is}
use Rattle.locate.proofs.Promises.{columns_fit, rows_fit}

few : (a : Axis) {n side : ℕ} → a.scores ≡ scores a.picture a.from a.to a.low a.high → a.low + 4 ≤ a.high
    → a.high < n → n + 2 ≤ side → length a.scores + 2 ≤ side
few a is span end most =
    omega (arith, ap length is ∙ length_scores a.picture a.from a.to a.low a.high, count_most a.low a.high span)

-- of every call that passes its checks and whose screen does not get too small
pub lists_fit : (b : Board) (f : ℕ) (before : Lent) → checked b f before ≡ 0 → (reference_for b f before).last.too_small ≡ false
    → ListsFit b.height b.width (reference_for b f before)
lists_fit b f before passed large =
    let g : Reference = reference_for b f before in
    let p = fit b f before passed in
    let ends = rw (last_is f b.height b.width before.planes) at large in
    let s : Scored g = scored_where b f before passed large in
    let sides = sides_in f b.height b.width before.planes p.0 p.1 ends in
    let columns : length g.columns + 2 ≤ b.width = few (column_axis g) s.columns_are s.wide.columns s.wide.column_end sides.1 in
    let rows : length g.rows + 2 ≤ b.height = few (row_axis g) s.rows_are s.wide.rows s.wide.row_end sides.0 in
    record {
      columns_span = s.wide.columns;
      rows_span = s.wide.rows;
      scores_in = omega (arith, columns, rows);
      columns_taken = sym (fit_answer_lem g.columns _ (columns_fit g s) (omega (arith, columns)));
      rows_taken = sym (fit_answer_lem g.rows _ (rows_fit g s) (omega (arith, rows)));
    }
