-- Each way out of the work and of the call: what its steps leave is what locating gives. Assumes nothing.
use Prim.Native.Nat.{ℕ, ◌+◌, ◌-◌, ◌*◌}
use mathlib.Core.Path.{◌≡◌, refl, sym, ◌∙◌}
use mathlib.Core.Bool.{true, false}
use mathlib.Core.List.{List}
use native.Mathlib.Omega.{arith}
use borrow.Author.Tests.{eq-eqb, ne_eqb}
use lib.Ieee.{Float}
use lib.ListN.{length, take, drop}
use Rattle.lists.specs.Front.{AtFront}
use Rattle.lists.proofs.Front.{front_none}
use Rattle.board.specs.declared.Board.{Board}
use Rattle.board.specs.Board.{least_located, resized}
use Rattle.board.specs.Inner.{FactorIn, FitPlanes}
use Rattle.edges.proofs.Laws.{edge_le}
use Rattle.bounds.proofs.Laws as Bounds
use Rattle.narrowings.specs.declared.Narrowed.{Narrowed}
use Rattle.narrowings.specs.Loop.{Stage, edges_at, bounds_at, Last, last_of}
use Rattle.narrowings.specs.Inner.{Narrows}
use Rattle.narrowings.proofs.Looking.{edges_in, edges_part}
use Rattle.narrowings.proofs.Turns.{spans, sound_around}
use Rattle.locate.specs.declared.Located.{Located}
use Rattle.locate.specs.Reference.{reference_of}
use Rattle.locate.specs.Locate.{Lent, lent, checked, passes, declined, reference_for, LocateGives}
use Rattle.locate.specs.Promise.{Promise}
use Rattle.locate.specs.Corners.{CornersHold}
use Rattle.locate.specs.Inner.{NoneShort, Leads, ReadsFrom, Works}
use Rattle.locate.proofs.Promises.{promised}
use Rattle.locate.proofs.Cornered.{cornered}
use Rattle.locate.proofs.Scored.{sound, not_thin}

module _ (b : Board) (f : ℕ) (before : Lent) (i : FactorIn f) (p : FitPlanes (least_located f) b.height b.width before.planes)
    (room : NoneShort b.height b.width before)
    {l : Narrowed} {planes' gradients' : List Float} {edges' : List ℕ}
    (narrows : Narrows b.height b.width (last_of f b.height b.width before.planes) l planes' gradients')
    (edged : AtFront (edges_at (last_of f b.height b.width before.planes).stage) before.edges edges') where
  abbrev h : ℕ
  h = b.height

  abbrev w : ℕ
  w = b.width

  abbrev last : Last
  last = last_of f h w before.planes

  abbrev n : ℕ
  n = (l.height - 2) * (l.width - 2)

  abbrev s : Stage
  s = last.stage

  picture_is : take n edges' ≡ edges_at s
  picture_is = rw (narrows.height_is, narrows.width_is) (edges_part s.height s.width s.planes edged)

  planes_left : planes' ≡ (reference_for b f before).last.stage.planes
  unfolding reference_of
  planes_left = narrows.planes_are

  edges_left : AtFront (reference_for b f before).edges before.edges edges'
  unfolding reference_of
  edges_left = edged

  -- the screen got too small
  pub works_small : {r : Located} (f32 : List Float) (u8 u32 : List ℕ) → l.small ≡ true
      → r ≡ declined (resized b l.height l.width) 5 l.narrowed
      → Works b f before r (lent planes' edges' before.scores f32 u8 u32)
  unfolding reference_of
  works_small f32 u8 u32 ok e =
      let yes : last.too_small ≡ true = sym narrows.small_is ∙ ok in
      record {
        located_is = rw (yes, ← narrows.height_is, ← narrows.width_is, ← narrows.narrowed_is) e;
        planes_are = planes_left;
        edges_are = edges_left;
        scores_are = rw yes front_none;
      }

  -- the loop ended well
  module _ (ok : l.small ≡ false) where
    large : last.too_small ≡ false
    large = sym narrows.small_is ∙ ok

    pub leads : Leads l edges' (length before.scores) (length before.scratch_u8) (length before.scratch_u32)
    leads =
        let good = sound f h w before.planes i p large in
        let sides = good.fit.sides in
        let wide = spans s.height s.width (bounds_at s) (not_thin f h w before.planes i p large) in
        let h-is = narrows.height_is in
        let w-is = narrows.width_is in
        let b-is = narrows.looks.bounds_are in
        record {
          low_h = rw h-is (omega (arith, sides.low_h));
          high_h = rw h-is sides.high_h;
          low_w = rw w-is (omega (arith, sides.low_w));
          high_w = rw w-is sides.high_w;
          within = rw (h-is, w-is, b-is) (Bounds.within (sound_around (omega arith) good));
          rows = rw (h-is, b-is) wide.0;
          columns = rw (w-is, b-is) wide.1;
          there = rw (h-is, w-is) (edges_in s.height s.width s.planes edged);
          marks = λ k. rw picture_is (edge_le s.height s.width s.planes k);
          scores_in = omega (arith, h-is, w-is, good.high_h, good.high_w, room.scores_in);
          u8_in = omega (arith, narrows.area, room.u8_in);
          u32_in = omega (arith, h-is, w-is, good.high_h, good.high_w, room.u32_in);
        }

    pub works_read : {r : Located} {scores' : List ℕ} (f32 : List Float) (u8 u32 : List ℕ)
        → ReadsFrom b l (take n edges') before.scores r scores'
        → Works b f before r (lent planes' edges' scores' f32 u8 u32)
    unfolding reference_of
    works_read {r} {scores'} f32 u8 u32 e =
        let is = rw (picture_is, narrows.height_is, narrows.width_is, narrows.narrowed_is, narrows.looks.bounds_are) at e in
        record {
          located_is = rw large is.located_is;
          planes_are = planes_left;
          edges_are = edges_left;
          scores_are = rw large is.scores_are;
        }

-- ---- the call: a refusal by the checks, or the work, each with the promise

-- scratch beyond 01's lengths is as it was
pub record ScratchKept (h w : ℕ) (before after : Lent) : Type 0 where
  pub f32_kept : drop (h * w) after.scratch_f32 ≡ drop (h * w) before.scratch_f32
  pub u8_kept : drop (h * w) after.scratch_u8 ≡ drop (h * w) before.scratch_u8
  pub u32_kept : drop (4 * (h + w)) after.scratch_u32 ≡ drop (4 * (h + w)) before.scratch_u32

module _ (b : Board) (f : ℕ) (before : Lent) {r : Located} where
  pub refuses : (answer : ℕ) → answer ≡ checked b f before → (answer ≡ 0 → ⊥) → r ≡ declined b answer 0
      → LocateGives b f before r before × Promise b f before r before × CornersHold b r
  refuses answer e n d =
      let no : passes b f before ≡ false = rw e at (ne_eqb answer 0 n) in
      let g : LocateGives b f before r before =
      record {
        located_is = rw no (rw e at d);
        planes_are = rw no;
        edges_are = rw no front_none;
        scores_are = rw no front_none;
        f32_kept = refl;
        u8_kept = refl;
        u32_kept = refl;
      } in
      (g, promised b f before r before g, cornered b f before r before g)

  -- the work was done on scratch of 01's lengths
  pub accepts : (after mid-before mid-after : Lent) → checked b f before ≡ 0 → Works b f mid-before r mid-after
      → mid-before.planes ≡ before.planes → mid-before.edges ≡ before.edges → mid-before.scores ≡ before.scores
      → mid-after.planes ≡ after.planes → mid-after.edges ≡ after.edges → mid-after.scores ≡ after.scores
      → ScratchKept b.height b.width before after
      → LocateGives b f before r after × Promise b f before r after × CornersHold b r
  accepts after mid-before mid-after e k p q s p' q' s' t =
      let yes : passes b f before ≡ true = eq-eqb (checked b f before) 0 e in
      let g : LocateGives b f before r after =
      record {
        located_is = rw yes (rw p at k.located_is);
        planes_are = rw yes (rw (p, p') at k.planes_are);
        edges_are = rw yes (rw (p, q, q') at k.edges_are);
        scores_are = rw yes (rw (p, s, s') at k.scores_are);
        f32_kept = rw yes t.f32_kept;
        u8_kept = rw yes t.u8_kept;
        u32_kept = rw yes t.u32_kept;
      } in
      (g, promised b f before r after g, cornered b f before r after g)
