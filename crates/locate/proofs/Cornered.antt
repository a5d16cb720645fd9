-- Where the corners of the record lie follows from what locating gives: a located board has the widened bounds, which are wide and lie in
-- the last edge picture, and a refusal has the corners as given. Assumes nothing.
use Prim.Native.Nat.{ℕ, ◌-◌}
use mathlib.Core.Path.{◌≡◌, refl}
use mathlib.Core.Bool.{Bool, true, false, cond}
use native.Mathlib.Omega.{arith}
use borrow.Author.Tests.{eqb-true, eqb-false}
use Rattle.board.specs.declared.Board.{Board}
use Rattle.board.specs.declared.Bounds.{Bounds}
use Rattle.board.specs.declared.Spacing.{Spacing}
use Rattle.board.specs.Board.{resized, with_reading}
use Rattle.bounds.proofs.Laws.{Wide}
use Rattle.std.specs.Prelude.{Result, Ok, Err}
use Rattle.reading.specs.declared.Reading.{Reading}
use Rattle.reading.specs.Reading.{quarters_of}
use Rattle.axes.specs.Inner.{Fits32}
use Rattle.axes.proofs.Scoring.{quarters_fit}
use Rattle.locate.specs.declared.Located.{Located}
use Rattle.locate.specs.Reference.{Reference}
use Rattle.locate.specs.Locate.{Lent, checked, passes, declined, joined, found, reference_for, LocateGives}
use Rattle.locate.specs.Corners.{CornersIn, CornersHold}
use Rattle.locate.proofs.Scored.{Scored, scored_where}
use Rattle.locate.proofs.Promises.{columns_fit}

-- what a refusal hands back: the sides alone can be other ones
refusal_holds : (b : Board) (h w answer n : ℕ) → (answer ≡ 0 → ⊥) → CornersHold b (declined (resized b h w) answer n)
refusal_holds b h w answer n refused =
    record {
      located = λ z. absurd (refused z);
      passed_on = λ e f c. record { rows = c.rows; row_end = rw e c.row_end; columns = c.columns; column_end = rw f c.column_end };
      rows_wide = λ z. absurd (refused z);
      columns_wide = λ z. absurd (refused z);
    }

-- both readings together, where the bounds are wide in the edge picture of these sides
module _ (b : Board) (h w n : ℕ) (bounds : Bounds) (wide : Wide (h - 2) (w - 2) bounds) where
  lie : (rows columns : Spacing) → CornersIn (with_reading (resized b h w) bounds rows columns)
  lie rows columns =
      record {
        rows = omega (arith, wide.rows);
        row_end = omega (arith, wide.row_end);
        columns = omega (arith, wide.columns);
        column_end = omega (arith, wide.column_end);
      }

  joined_holds : (columns rows : Result (Reading ℕ) ℕ) → Fits32 columns → CornersHold b (joined (resized b h w) n bounds columns rows)
  joined_holds (Err k) rows t = refusal_holds b h w k n (λ z. omega (arith, t.0))
  joined_holds (Ok _) (Err k) t = refusal_holds b h w _ n (λ z. omega (arith, z))
  joined_holds (Ok _) (Ok _) t =
      record {
        located = λ _. lie _ _;
        passed_on = λ _ _ _. lie _ _;
        rows_wide = λ _. (wide.rows, omega (arith, wide.row_end));
        columns_wide = λ _. (wide.columns, omega (arith, wide.column_end));
      }

found_holds : (b : Board) (g : Reference) → (g.last.too_small ≡ false → Scored g) → CornersHold b (found b g)
found_holds b g s = go g.last.too_small refl
  where
    h : ℕ
    h = g.last.stage.height

    w : ℕ
    w = g.last.stage.width

    n : ℕ
    n = g.last.stage.narrowed

    read : Located
    read = joined (resized b h w) n g.bounds (quarters_of g.columns) (quarters_of g.rows)

    go : (t : Bool) → g.last.too_small ≡ t → CornersHold b (cond t (declined (resized b h w) 5 n) read)
    go true e = refusal_holds b h w 5 n (λ z. omega (arith, z))
    go false e =
        let p = s e in
        joined_holds b h w n g.bounds (rw (p.row_is, p.column_is) at p.wide) (quarters_of g.columns) (quarters_of g.rows)
        (quarters_fit g.columns (columns_fit g p))

pub cornered : (b : Board) (f : ℕ) (before : Lent) (r : Located) (after : Lent) → LocateGives b f before r after → CornersHold b r
cornered b f before r after g = go (passes b f before) refl g.located_is
  where
    ref : Reference
    ref = reference_for b f before

    go : (t : Bool) → passes b f before ≡ t → r ≡ cond t (found b ref) (declined b (checked b f before) 0) → CornersHold b r
    go true e is = rw is (found_holds b ref (scored_where b f before (eqb-true (checked b f before) 0 e)))
    go false e is = rw is (refusal_holds b b.height b.width (checked b f before) 0 (eqb-false (checked b f before) 0 e))
