-- The loop of narrowings, over the factor: what passes on from screen to screen, one induction for where it ends, and
-- what holds before each turn of the code's loop. Assumes nothing.
use Prim.Native.Nat.{ℕ, zero, suc, ◌+◌, ◌-◌, ◌*◌, ◌/◌, ◌≤◌, ◌<◌}
use mathlib.Core.Path.{◌≡◌, refl, sym, ◌∙◌}
use mathlib.Core.Bool.{Bool, true, false, cond, ◌&&◌, true≢false}
use mathlib.Core.List.{List}
use native.Mathlib.Nat.{div-le_self, div-lt_self, le-div_iff_mul-le}
use native.Mathlib.Omega.{arith}
use borrow.Author.Tests.{leb-false, lt-ltb}
use lib.Dec.{leb, ltb}
use lib.Ieee.{Float}
use lib.ListN.{length, take}
use Rattle.lists.specs.Front.{AtFront}
use Rattle.board.specs.declared.Bounds.{Bounds}
use Rattle.board.specs.Board.{least_plane_side, least_located}
use Rattle.board.specs.Inner.{FactorIn, FitPlanes}
use Rattle.board.proofs.Planes.{fit_lower}
use Rattle.std.proofs.lemmas.Bool.{or_parts}
use Rattle.narrow.specs.Narrow.{narrow}
use Rattle.narrow.proofs.Laws.{smaller, narrow_length, narrow_fit}
use Rattle.gradient.proofs.Laws.{inner_le}
use Rattle.edges.specs.Edges.{marks}
use Rattle.bounds.proofs.Laws.{Around, around}
use Rattle.narrowings.specs.declared.Narrowed.{Narrowed}
use Rattle.narrowings.specs.Loop.{Stage, staged, first, edges_at, picture_at, bounds_at, thin, small, next, Last, one_turn, looped, last_of}
use Rattle.narrowings.specs.Inner.{Looks, Narrows}
use Rattle.narrowings.proofs.Looking.{edged}

-- a picture that is not small
pub large : (h w : ℕ) → small h w ≡ false → (67 ≤ h) × (67 ≤ w)
unfolding small
large h w e =
    let a = or_parts (leb (h - 2) 64) (leb (w - 2) 64) e in
    (omega (arith, leb-false (h - 2) 64 a.0), omega (arith, leb-false (w - 2) 64 a.1))

-- spans of bounds that are not thin
pub spans : (h w : ℕ) (b : Bounds) → thin h w b ≡ false → ((h - 2) / 3 < b.r_2 - b.r_1) × ((w - 2) / 3 < b.c_2 - b.c_1)
unfolding thin
spans h w b e =
    let a = or_parts (leb (b.r_2 - b.r_1) ((h - 2) / 3)) (leb (b.c_2 - b.c_1) ((w - 2) / 3)) e in
    (leb-false (b.r_2 - b.r_1) ((h - 2) / 3) a.0, leb-false (b.c_2 - b.c_1) ((w - 2) / 3) a.1)

-- what passes on: the planes are fit, the sides are within the first ones, and the slice is as long
pub record Sound (least h w long : ℕ) (s : Stage) : Type 0 where
  pub fit : FitPlanes least s.height s.width s.planes
  pub high_h : s.height ≤ h
  pub high_w : s.width ≤ w
  pub area : s.height * s.width ≤ h * w
  pub long_is : length s.planes ≡ long

pub sound_first : {least h w : ℕ} {planes : List Float} → FitPlanes least h w planes → Sound least h w (length planes) (first h w planes)
sound_first p = record { fit = p; high_h = omega arith; high_w = omega arith; area = omega arith; long_is = refl }

-- the bounds of such a screen lie around its middle
pub sound_around : {least h w long : ℕ} {s : Stage} → least_plane_side ≤ least → Sound least h w long s
    → Around (s.height - 2) (s.width - 2) (bounds_at s)
sound_around {s = s} l p = around (picture_at s) (omega (arith, p.fit.sides.low_h)) (omega (arith, p.fit.sides.low_w))

-- they are in order
pub ordered : {least h w long : ℕ} {s : Stage} → least_plane_side ≤ least → Sound least h w long s
    → ((bounds_at s).r_1 ≤ (bounds_at s).r_2) × ((bounds_at s).c_1 ≤ (bounds_at s).c_2)
ordered l p = let a = sound_around l p in (omega (arith, a.rows.low, a.rows.high), omega (arith, a.columns.low, a.columns.high))

-- before a turn of the code's loop: the loop from the start is the loop from here, and enough turns are left.
pub record Going (f h w : ℕ) (start : List Float) (s : Stage) : Type 0 where
  pub turns : ℕ
  pub same : last_of f h w start ≡ looped f turns s
  pub enough : s.height ≤ turns
  pub counted : s.narrowed + turns ≡ h
  pub sound : Sound (least_located f) h w (length start) s

pub going_first : {f h w : ℕ} {planes : List Float} → FitPlanes (least_located f) h w planes → Going f h w planes (first h w planes)
unfolding last_of
going_first {h = h} p = record { turns = h; same = refl; enough = omega arith; counted = omega arith; sound = sound_first p }

module _ (f : ℕ) (i : FactorIn f) where
  narrowed_sound : (least : ℕ) {h w long : ℕ} {s : Stage} → Sound (least_located f) h w long s → least ≤ s.height / f → least ≤ s.width / f
      → Sound least h w long (next f s)
  narrowed_sound least {s = s} p a b =
      record {
        fit = narrow_fit f i.low least (fit_lower 0 (omega arith) p.fit) a b;
        high_h = omega (arith, p.high_h, div-le_self s.height f);
        high_w = omega (arith, p.high_w, div-le_self s.width f);
        area = omega (arith, p.area, smaller f s.height s.width);
        long_is = narrow_length f s.height s.width s.planes p.fit.there ∙ p.long_is;
      }

  -- a narrowed side is at least 4: there is an edge picture
  pub sound_next : {h w long : ℕ} {s : Stage} → Sound (least_located f) h w long s → Sound least_plane_side h w long (next f s)
  sound_next p =
      let s = p.fit.sides in
      let pos : 0 < f = omega (arith, i.low) in
      narrowed_sound least_plane_side p ((le-div_iff_mul-le pos).1 (omega (arith, s.low_h)))
      ((le-div_iff_mul-le pos).1 (omega (arith, s.low_w)))

  -- and where it is not small, it can be narrowed again
  pub sound_large : {h w long : ℕ} {s : Stage} → Sound (least_located f) h w long s → small (s.height / f) (s.width / f) ≡ false
      → Sound (least_located f) h w long (next f s)
  sound_large {s = s} p e =
      let l = large (s.height / f) (s.width / f) e in
      narrowed_sound (least_located f) p (omega (arith, i.high, l.0)) (omega (arith, i.high, l.1))

  -- The induction: what holds of a screen, and passes on to a narrowed one that is not small, holds where the loop
  -- ends well; and that is not thin.
  pub ends_well : (P : Stage → Type 0) → ((s : Stage) → P s → small (s.height / f) (s.width / f) ≡ false → P (next f s))
      → (turns : ℕ) (s : Stage) → P s → (looped f turns s).too_small ≡ false
      → P (looped f turns s).stage
      × (thin (looped f turns s).stage.height (looped f turns s).stage.width (bounds_at (looped f turns s).stage) ≡ false)
  ends_well P pass zero s p e = absurd (true≢false e)
  ends_well P pass (suc turns) s p e =
      go (thin s.height s.width (bounds_at s)) refl (small (s.height / f) (s.width / f)) refl (ends_well P pass turns (next f s)) e
    where
      Ends : Last → Type 0
      Ends l = P l.stage × (thin l.stage.height l.stage.width (bounds_at l.stage) ≡ false)

      ended : Bool → Bool → Last
      ended a b =
          cond a (cond b (record { stage = next f s; too_small = true }) (looped f turns (next f s)))
          (record { stage = s; too_small = false })

      go : (a : Bool) → thin s.height s.width (bounds_at s) ≡ a → (b : Bool) → small (s.height / f) (s.width / f) ≡ b
          → (P (next f s) → (looped f turns (next f s)).too_small ≡ false → Ends (looped f turns (next f s)))
          → (ended a b).too_small ≡ false → Ends (ended a b)
      go false q b r ih z = (p, q)
      go true q true r ih z = absurd (true≢false z)
      go true q false r ih z = ih (pass s p r) z

  -- where the loop ends well, the last screen is sound and not thin
  pub last_sound : (h w : ℕ) (planes : List Float) → FitPlanes (least_located f) h w planes → (last_of f h w planes).too_small ≡ false
      → Sound (least_located f) h w (length planes) (last_of f h w planes).stage
      × (thin (last_of f h w planes).stage.height (last_of f h w planes).stage.width (bounds_at (last_of f h w planes).stage) ≡ false)
  unfolding last_of
  last_sound h w planes p e =
      ends_well (Sound (least_located f) h w (length planes)) (λ s q r. sound_large q r) h (first h w planes) (sound_first p) e

  -- ---- the code's loop
  module _ {h w : ℕ} {start : List Float} {s : Stage} (g : Going f h w start s) where
    some : (m : ℕ) × (g.turns ≡ suc m)
    some = go g.turns g.enough
      where
        go : (k : ℕ) → s.height ≤ k → (m : ℕ) × (k ≡ suc m)
        go zero l = absurd (omega (arith, g.sound.fit.sides.low_h))
        go (suc k) l = (k, refl)

    -- one turn of the definition
    here : last_of f h w start ≡ one_turn f (looped f some.0) s
    here = rw some.1 at g.same

    pub going_end : thin s.height s.width (bounds_at s) ≡ false → last_of f h w start ≡ record { stage = s; too_small = false }
    going_end p = rw p at here

    pub going_small : thin s.height s.width (bounds_at s) ≡ true → small (s.height / f) (s.width / f) ≡ true
        → last_of f h w start ≡ record { stage = next f s; too_small = true }
    going_small p q = rw (p, q) at here

    pub going_on : thin s.height s.width (bounds_at s) ≡ true → small (s.height / f) (s.width / f) ≡ false
        → Going f h w start (next f s)
    going_on p q =
        record {
          turns = some.0;
          same = rw (p, q) at here;
          enough =
              let less = div-lt_self {n = s.height} {k = f} (omega (arith, g.sound.fit.sides.low_h)) (omega (arith, i.low)) in
              omega (arith, g.enough, some.1, less);
          counted = omega (arith, g.counted, some.1);
          sound = sound_large g.sound q;
        }

-- ---- what the code has in hand

-- the screen of a look
abbrev pub stage_of : Narrowed → List Float → Stage
stage_of l planes = staged l.height l.width planes l.narrowed

-- before a turn: a look at the screen that the loop has come to, which is not too small
pub record Here (f h w : ℕ) (start : List Float) (l : Narrowed) (planes g : List Float) : Type 0 where
  pub going : Going f h w start (stage_of l planes)
  pub looks : Looks l.height l.width planes l.threshold l.bounds g
  pub not_small : l.small ≡ false

pub here_first : {f : ℕ} {l : Narrowed} {planes g : List Float} → FitPlanes (least_located f) l.height l.width planes
    → l.narrowed ≡ 0 → l.small ≡ false → Looks l.height l.width planes l.threshold l.bounds g → Here f l.height l.width planes l planes g
here_first p n e x = record { going = rw n (going_first p); looks = x; not_small = e }

-- a look at the last screen is what is handed back
narrows_at : {h w : ℕ} {last : Last} {l : Narrowed} {planes g : List Float} → last ≡ record { stage = stage_of l planes; too_small = l.small }
    → least_plane_side ≤ l.height → least_plane_side ≤ l.width → l.height * l.width ≤ h * w
    → Looks l.height l.width planes l.threshold l.bounds g → Narrows h w last l planes g
narrows_at e a b n x =
    record {
      height_is = rw e;
      width_is = rw e;
      narrowed_is = rw e;
      small_is = rw e;
      planes_are = rw e;
      low_h = a;
      low_w = b;
      area = n;
      looks = rw e x;
    }

module _ {f h w : ℕ} {start : List Float} {l : Narrowed} {planes g : List Float} (i : FactorIn f) (at : Here f h w start l planes g) where
  is_thin : {t : Bool} → thin l.height l.width l.bounds ≡ t → thin l.height l.width (bounds_at (stage_of l planes)) ≡ t
  is_thin p = rw at.looks.bounds_are at p

  pub here_ordered : (2 ≤ l.height) × (2 ≤ l.width) × (l.bounds.r_1 ≤ l.bounds.r_2) × (l.bounds.c_1 ≤ l.bounds.c_2)
  here_ordered =
      let s = at.going.sound in
      let o = ordered (omega arith) s in
      let e = at.looks.bounds_are in
      (omega (arith, s.fit.sides.low_h), omega (arith, s.fit.sides.low_w), rw e o.0, rw e o.1)

  -- a narrowed screen can be looked at, and its height is smaller
  pub here_next : FitPlanes least_plane_side (l.height / f) (l.width / f) (narrow f l.height l.width planes) × (l.height / f * (l.width / f) ≤ h * w)
  here_next = let s = sound_next f i at.going.sound in (s.fit, s.area)

  pub here_falls : l.height / f < l.height
  here_falls = div-lt_self (omega (arith, at.going.sound.fit.sides.low_h)) (omega (arith, i.low))

  pub here_end : thin l.height l.width l.bounds ≡ false → Narrows h w (last_of f h w start) l planes g
  here_end p =
      let s = at.going.sound in
      narrows_at (rw at.not_small (going_end f i at.going (is_thin p))) (omega (arith, s.fit.sides.low_h)) (omega (arith, s.fit.sides.low_w))
      s.area at.looks

  -- a look at the narrowed screen
  module _ {t : Narrowed} {planes' g' : List Float} (thins : thin l.height l.width l.bounds ≡ true)
      (planes_are : planes' ≡ narrow f l.height l.width planes)
      (sides : (t.height ≡ l.height / f) × (t.width ≡ l.width / f) × (t.narrowed ≡ l.narrowed + 1))
      (too_small : t.small ≡ ltb 0 (l.narrowed + 1) && small (l.height / f) (l.width / f))
      (looks : Looks (l.height / f) (l.width / f) planes' t.threshold t.bounds g') where
    stage_now : stage_of t planes' ≡ next f (stage_of l planes)
    stage_now = rw (sides.0, sides.1, sides.2, planes_are)

    looks_now : Looks t.height t.width planes' t.threshold t.bounds g'
    looks_now = rw (sides.0, sides.1) looks

    small_now : {b : Bool} → t.small ≡ b → small (l.height / f) (l.width / f) ≡ b
    small_now e = sym (rw (lt-ltb 0 (l.narrowed + 1) (omega arith)) at too_small) ∙ e

    pub here_small : t.small ≡ true → Narrows h w (last_of f h w start) t planes' g'
    here_small e =
        let s = rw (← stage_now) at (sound_next f i at.going.sound) in
        narrows_at (rw (e, stage_now) (going_small f i at.going (is_thin thins) (small_now e))) s.fit.sides.low_h s.fit.sides.low_w s.area
        looks_now

    pub here_on : t.small ≡ false → Here f h w start t planes' g'
    here_on e = record { going = rw stage_now (going_on f i at.going (is_thin thins) (small_now e)); looks = looks_now; not_small = e }

-- ---- the last picture's edges

module _ {h w : ℕ} {last : Last} {r : Narrowed} {planes g : List Float} (n : Narrows h w last r planes g) where
  -- there is room for them wherever there is room for the first picture
  pub points_fit : (r.height - 2) * (r.width - 2) ≤ h * w
  points_fit = omega (arith, inner_le r.height r.width, n.area)

  -- they are drawn from the gradients that the loop leaves, by their threshold
  pub last_edged : {lent out : List ℕ}
      → let drawn = take ((r.height - 2) * (r.width - 2)) g in
      AtFront (marks r.threshold (length drawn) drawn) lent out → AtFront (edges_at last.stage) lent out
  last_edged x =
      let s = last.stage in
      edged s.height s.width s.planes n.looks.gradients_are n.looks.threshold_is (rw (n.height_is, n.width_is) at x)
