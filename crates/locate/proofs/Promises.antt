-- The promise follows from what locating gives. Assumes nothing.
use Prim.Native.Nat.{ℕ, ◌+◌, ◌≤◌, ◌<◌}
use mathlib.Core.Path.{◌≡◌, refl, sym, ap, ◌∙◌}
use mathlib.Core.Bool.{Bool, true, false, cond, false≢true}
use mathlib.Core.List.{List, [], ◌++◌}
use native.Mathlib.Omega.{arith}
use borrow.Author.Tests.{eqb-true, eqb-false}
use lib.ListN.{length, get_or, length-append, get_or-append}
use lib.Seq.{get_or-append-add}
use Rattle.lists.specs.Front.{AtFront}
use Rattle.lists.proofs.Front.{front_fits, front_within}
use Rattle.board.specs.declared.Board.{Board}
use Rattle.board.specs.Board.{resized}
use Rattle.bounds.specs.Bounds.{BoundsIn}
use Rattle.std.specs.Prelude.{Result, Ok, Err}
use Rattle.reading.specs.declared.Reading.{Reading}
use Rattle.reading.specs.Reading.{gap_answer, quarters_of}
use Rattle.reading.proofs.Answers.{answer_in, quarters_answer}
use Rattle.axes.specs.Inner.{Fits32}
use Rattle.axes.proofs.Scoring.{scores_fit, quarters_fit}
use Rattle.lines.specs.Lines.{lines_of}
use Rattle.lines.specs.Inner.{InLimits}
use Rattle.locate.specs.declared.Located.{Located}
use Rattle.locate.specs.Reference.{Reference, column_axis, row_axis}
use Rattle.locate.specs.Locate.{Lent, checked, passes, declined, joined, found, scores_of, reference_for, LocateGives}
use Rattle.locate.specs.Promise.{Optimal, BoardFound, Promise}
use Rattle.locate.proofs.Scored.{Scored, scored_where}
use Rattle.locate.proofs.Unbeaten.{scores_long, unbeaten}

module _ (g : Reference) (s : Scored g) where
  pub columns_fit : InLimits g.columns
  columns_fit =
      let e = s.wide in
      rw s.columns_are
      (scores_fit g.picture _ _ _ _ e.columns (omega (arith, e.column_end, s.columns_end)) (omega (arith, e.row_end, s.rows_end)))

  pub rows_fit : InLimits g.rows
  rows_fit =
      let e = s.wide in
      rw s.rows_are
      (scores_fit _ _ _ _ _ e.rows (omega (arith, e.row_end, s.rows_end)) (omega (arith, e.column_end, s.columns_end)))

  inside : BoundsIn g.row g.column g.bounds
  inside =
      let e = s.wide in
      record {
        r_1 = omega (arith, e.rows, e.row_end);
        r_2 = e.row_end;
        c_1 = omega (arith, e.columns, e.column_end);
        c_2 = e.column_end;
      }

  -- both readings were accepted
  module _ {before after : List ℕ} (x : AtFront (g.columns ++ g.rows) before after) where
    room : length g.columns + length g.rows ≤ length after
    room = omega (arith, front_fits x, length-append g.columns g.rows)

    across_entry : (i : ℕ) → i < length g.columns → get_or after i 0 ≡ get_or g.columns i 0
    across_entry i l = front_within 0 i x (simp length-append (omega arith)) ∙ get_or-append g.columns g.rows 0 i l

    down_entry : (i : ℕ) → i < length g.rows → get_or after (length g.columns + i) 0 ≡ get_or g.rows i 0
    down_entry i l =
        front_within 0 (length g.columns + i) x (simp length-append (omega arith)) ∙ get_or-append-add g.columns g.rows i 0

    pub optimal : (b : Board) (n : ℕ) (c r : Reading ℕ) → quarters_of g.columns ≡ Ok c
        → quarters_of g.rows ≡ Ok r
        → Optimal g (joined b n g.bounds (Ok c) (Ok r)) after
    optimal b n c r across down =
        let e = s.wide in
        record {
          inside = inside;
          whole = s.whole;
          room = room;
          top_is = refl;
          left_is = refl;
          bottom_is = refl;
          right_is = refl;
          rows_are = rw down;
          columns_are = rw across;
          columns_unbeaten = unbeaten (column_axis g) s.columns_are e.rows e.columns _ c columns_fit
              (λ i l. across_entry i (rw (scores_long (column_axis g) s.columns_are e.rows e.columns) l)) across;
          rows_unbeaten = unbeaten (row_axis g) s.rows_are e.columns e.rows _ r rows_fit
              (λ i l. down_entry i (rw (scores_long (row_axis g) s.rows_are e.columns e.rows) l)) down;
        }

    -- by the readings: the answer is 0 only where both were accepted
    pub optimal_by : (b : Board) (n : ℕ) (columns rows : Result (Reading ℕ) ℕ) → quarters_of g.columns ≡ columns → quarters_of g.rows ≡ rows
        → Fits32 columns
        → (joined b n g.bounds columns rows).answer ≡ 0 → Optimal g (joined b n g.bounds columns rows) after
    optimal_by b n (Err k) rows e f t z = absurd (omega (arith, t.0))
    optimal_by b n (Ok c) (Err k) e f t z = absurd (omega arith)
    optimal_by b n (Ok c) (Ok r) e f t z = optimal b n c r e f

-- a list that is read has no refusal, and one that is refused has its own
module _ (s : List ℕ) (f : InLimits s) where
  read_fits : {r : Reading ℕ} → quarters_of s ≡ Ok r → gap_answer (lines_of s) ≡ 0
  read_fits e = sym (quarters_answer s) ∙ ap answer_in e

  refused_not : {n : ℕ} → quarters_of s ≡ Err n → gap_answer (lines_of s) ≡ 0 → ⊥
  refused_not {n} e z =
      let six : 6 ≤ n = (rw e at (quarters_fit s f)).0 in
      let is : n ≡ 0 = sym (ap answer_in e) ∙ (quarters_answer s ∙ z) in
      omega (arith, six, is)

-- what locating hands back where the checks passed
module _ (b : Board) (g : Reference) (s : g.last.too_small ≡ false → Scored g) where
  abbrev sized : Board
  sized = resized b g.last.stage.height g.last.stage.width

  abbrev n : ℕ
  n = g.last.stage.narrowed

  abbrev read : Located
  read = joined sized n g.bounds (quarters_of g.columns) (quarters_of g.rows)

  found_optimal : (before after : List ℕ) → AtFront (scores_of g) before after → (found b g).answer ≡ 0 → Optimal g (found b g) after
  found_optimal before after x z = go g.last.too_small refl x z
    where
      go : (t : Bool) → g.last.too_small ≡ t → AtFront (cond t [] (g.columns ++ g.rows)) before after
          → (cond t (declined sized 5 n) read).answer ≡ 0 → Optimal g (cond t (declined sized 5 n) read) after
      go true e y w = absurd (omega arith)
      go false e y w = optimal_by g (s e) y sized n _ _ refl refl (quarters_fit g.columns (columns_fit g (s e))) w

  -- the answer is 0 exactly where a board is found by the rules
  module _ (large : g.last.too_small ≡ false) where
    both : (columns rows : Result (Reading ℕ) ℕ) → quarters_of g.columns ≡ columns → quarters_of g.rows ≡ rows
        → ((joined sized n g.bounds columns rows).answer ≡ 0 → BoardFound g)
        × (BoardFound g → (joined sized n g.bounds columns rows).answer ≡ 0)
    both (Err k) rows e f =
        let six : 6 ≤ k = (rw e at (quarters_fit g.columns (columns_fit g (s large)))).0 in
        (λ z. absurd (omega (arith, six, z)), λ r. absurd (refused_not g.columns (columns_fit g (s large)) e r.columns_read))
    both (Ok _) (Err k) e f =
        (λ z. absurd (omega (arith, z)), λ r. absurd (refused_not g.rows (rows_fit g (s large)) f r.rows_read))
    both (Ok _) (Ok _) e f = (
      λ z. record {
        large = large;
        columns_read = read_fits g.columns (columns_fit g (s large)) e;
        rows_read = read_fits g.rows (rows_fit g (s large)) f;
      },
      λ r. refl,
    )

  found_answer : ((found b g).answer ≡ 0 → BoardFound g) × (BoardFound g → (found b g).answer ≡ 0)
  found_answer = go g.last.too_small refl
    where
      go : (t : Bool) → g.last.too_small ≡ t
          → ((cond t (declined sized 5 n) read).answer ≡ 0 → BoardFound g) × (BoardFound g → (cond t (declined sized 5 n) read).answer ≡ 0)
      go true e = (λ z. absurd (omega arith), λ r. absurd (false≢true (sym r.large ∙ e)))
      go false e = both e _ _ refl refl

pub promised : (b : Board) (f : ℕ) (before : Lent) (r : Located) (after : Lent) → LocateGives b f before r after
    → Promise b f before r after
promised b f before r after g = go (passes b f before) refl g.located_is g.scores_are
  where
    ref : Reference
    ref = reference_for b f before

    go : (t : Bool) → passes b f before ≡ t → r ≡ cond t (found b ref) (declined b (checked b f before) 0)
        → AtFront (cond t (scores_of ref) []) before.scores after.scores → Promise b f before r after
    go true e is x =
        let z = eqb-true (checked b f before) 0 e in
        let s : ref.last.too_small ≡ false → Scored ref = scored_where b f before z in
        record {
          answered = (λ a. (z, (found_answer b ref s).0 (rw is at a)), λ y a. rw is ((found_answer b ref s).1 a));
          optimal = λ a. rw is (found_optimal b ref s before.scores after.scores x (rw is at a));
        }
    go false e is x =
        let n = eqb-false (checked b f before) 0 e in
        record { answered = (λ a. absurd (n (rw is at a)), λ y a. absurd (n y)); optimal = λ a. absurd (n (rw is at a)) }
