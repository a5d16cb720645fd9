-- The reference of a call whose loop of narrowings ended well: its bounds are wide and lie inside the picture, and its
-- lists are the bounds' scores. Assumes nothing.
use Prim.Native.Nat.{ℕ, ◌+◌, ◌-◌, ◌*◌, ◌≤◌}
use mathlib.Core.Path.{◌≡◌, refl}
use mathlib.Core.Bool.{false}
use mathlib.Core.List.{List}
use native.Mathlib.Omega.{arith}
use lib.Ieee.{Float}
use lib.ListN.{length}
use Rattle.board.specs.declared.Board.{Board}
use Rattle.board.specs.Board.{least_located}
use Rattle.board.specs.Inner.{FactorIn, FitPlanes}
use Rattle.edges.proofs.Laws.{length_edges}
use Rattle.bounds.proofs.Laws.{Wide, within, wide}
use Rattle.narrowings.specs.Loop.{Stage, bounds_at, thin, last_of}
use Rattle.narrowings.proofs.Turns.{Sound, spans, sound_around, last_sound}
use Rattle.strips.specs.Strip.{column_scores, row_scores}
use Rattle.locate.specs.Reference.{Reference, reference_of}
use Rattle.locate.specs.Locate.{Lent, checked, reference_for}
use Rattle.locate.proofs.Checks.{fit}

pub record Scored (g : Reference) : Type 0 where
  pub row_is : g.row ≡ g.last.stage.height - 2
  pub column_is : g.column ≡ g.last.stage.width - 2
  pub wide : Wide g.row g.column g.bounds
  pub rows_end : g.row ≤ 4094
  pub columns_end : g.column ≤ 4094
  pub whole : length g.edges ≡ g.row * g.column
  pub columns_are : g.columns ≡ column_scores g.picture g.bounds
  pub rows_are : g.rows ≡ row_scores g.picture g.bounds

module _ (f h w : ℕ) (planes : List Float) where
  -- the fields of the reference, each by itself
  pub last_is : (reference_of f h w planes).last ≡ last_of f h w planes
  unfolding reference_of
  last_is = refl

  module _ (i : FactorIn f) (p : FitPlanes (least_located f) h w planes) (ends : (last_of f h w planes).too_small ≡ false) where
    abbrev l : Stage
    l = (last_of f h w planes).stage

    pub sound : Sound (least_located f) h w (length planes) l
    sound = (last_sound f i h w planes p ends).0

    pub not_thin : thin l.height l.width (bounds_at l) ≡ false
    not_thin = (last_sound f i h w planes p ends).1

    -- both spans of the widened bounds are at least 4, and they lie inside the last picture
    wide_enough : Wide (l.height - 2) (l.width - 2) (reference_of f h w planes).bounds
    unfolding reference_of
    wide_enough =
        let s = sound.fit.sides in
        let n = spans l.height l.width (bounds_at l) not_thin in
        let a = sound_around (omega arith) sound in
        wide _ (omega (arith, s.low_h)) (omega (arith, s.low_w)) (within a) n.0 n.1

    -- whose edge picture is two rows and two columns smaller than the screen, or more
    pub sides_in : ((reference_of f h w planes).row + 2 ≤ h) × ((reference_of f h w planes).column + 2 ≤ w)
    unfolding reference_of
    sides_in =
        let s = sound.fit.sides in
        (omega (arith, sound.high_h, s.low_h), omega (arith, sound.high_w, s.low_w))

    pub scored : Scored (reference_of f h w planes)
    unfolding reference_of
    scored =
        record {
          row_is = refl;
          column_is = refl;
          wide = wide_enough;
          rows_end = omega (arith, sound.fit.sides.high_h);
          columns_end = omega (arith, sound.fit.sides.high_w);
          whole = length_edges l.height l.width l.planes;
          columns_are = refl;
          rows_are = refl;
        }

-- the same of a call that passed its checks
pub scored_where : (b : Board) (f : ℕ) (before : Lent) → checked b f before ≡ 0 → (reference_for b f before).last.too_small ≡ false
    → Scored (reference_for b f before)
scored_where b f before passed large =
    let p = fit b f before passed in
    scored f b.height b.width before.planes p.0 p.1 (rw (last_is f b.height b.width before.planes) at large)
