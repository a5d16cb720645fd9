-- What the checks of a map tell. Assumes nothing.
use Prim.Native.Nat.{ℕ, ◌≤◌}
use mathlib.Core.Path.{◌≡◌, sym, ◌∙◌}
use native.Mathlib.Nat.{zero-add}
use mathlib.Core.List.{List}
use borrow.Author.Tests.{ltb-false}
use lib.Dec.{ltb}
use lib.Ieee.{Float}
use lib.ListN.{length}
use Rattle.lists.proofs.Front.{placed_start}
use Rattle.text.specs.Inner.{Puts}
use Rattle.board.specs.declared.Board.{Board}
use Rattle.board.proofs.Sides.{passed}
use Rattle.sample.specs.Fit.{fit_answer}
use Rattle.sample.proofs.Answers.{passed_both}
use Rattle.sample.proofs.Fit.{fit_shown}
use Rattle.map.specs.Map.{line_width, most_rows, map_text, print_answer, map_answer, MapGives}
use Rattle.map.specs.Inner.{Printable}

-- what the answer 0 tells
pub record Prints (b : Board) (planes : List Float) (room : ℕ) : Type 0 where
  pub fit : fit_answer b planes ≡ 0
  pub printable : Printable b planes
  pub output : length (map_text b planes) ≤ room

pub prints : (b : Board) (planes : List Float) (room : ℕ) → map_answer b planes room ≡ 0 → Prints b planes room
unfolding map_answer print_answer
prints b planes room e =
    let f = passed_both (fit_answer b planes) (print_answer b planes room) e in
    let s = fit_shown b planes f.0 in
    let c = passed (ltb line_width b.c) 14 _ f.1 in
    let r = passed (ltb most_rows b.r) 10 _ c.1 in
    let o = passed (ltb room (length (map_text b planes))) 2 _ r.1 in
    record {
      fit = f.0;
      printable = record {
        record_in = s.0;
        planes_fit = s.1;
        columns_in = ltb-false line_width b.c c.0;
        rows_in = ltb-false most_rows b.r r.0;
      };
      output = ltb-false room (length (map_text b planes)) o.0;
    }

-- the text is printed
pub printed : (b : Board) (planes : List Float) {n : ℕ} {before after : List ℕ} → map_answer b planes (length before) ≡ 0
    → Puts (map_text b planes) 0 before n after
    → MapGives b planes before (record { answer = 0; length = n }) after
printed b planes e text = record { answer_is = sym e; length_is = text.next_is ∙ zero-add _; out_is = placed_start text.placed }
