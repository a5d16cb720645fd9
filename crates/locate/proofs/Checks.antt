-- What the checks of locating tell. Assumes nothing.
use Prim.Native.Nat.{ℕ, ◌+◌, ◌*◌}
use mathlib.Core.Path.{◌≡◌, refl, ◌∙◌}
use mathlib.Core.Bool.{Bool, false}
use mathlib.Core.List.{[]}
use borrow.Author.Tests.{ltb-false, le-ltb}
use lib.Dec.{ltb}
use lib.ListN.{length}
use Rattle.board.specs.declared.Board.{Board}
use Rattle.board.specs.Board.{least_located, least_factor, most_factor, outside, sides_outside, factor_outside}
use Rattle.board.specs.Planes.{planes_answer}
use Rattle.board.specs.Inner.{FactorIn, FitPlanes}
use Rattle.std.proofs.lemmas.Bool.{or_parts}
use Rattle.board.proofs.Sides.{passed, factor_in}
use Rattle.board.proofs.Planes.{planes_fit, answer_same}
use Rattle.locate.specs.Locate.{Lent, lent, slices_short, checked}
use Rattle.locate.specs.Inner.{NoneShort}

-- the planes play no part in whether another slice is short
pub short_same : (h w : ℕ) (s : Lent)
    → slices_short h w (lent [] s.edges s.scores s.scratch_f32 s.scratch_u8 s.scratch_u32) ≡ slices_short h w s
unfolding slices_short
short_same h w s = refl

pub none_short : (h w : ℕ) (s : Lent) → slices_short h w s ≡ false → NoneShort h w s
unfolding slices_short
none_short h w s e =
    let a = or_parts (ltb (length s.edges) (h * w)) _ e in
    let b = or_parts (ltb (length s.scores) (h + w)) _ a.1 in
    let c = or_parts (ltb (length s.scratch_f32) (h * w)) _ b.1 in
    let d = or_parts (ltb (length s.scratch_u8) (h * w)) _ c.1 in
    record {
      edges_in = ltb-false _ _ a.0;
      scores_in = ltb-false _ _ b.0;
      f32_in = ltb-false _ _ c.0;
      u8_in = ltb-false _ _ d.0;
      u32_in = ltb-false (length s.scratch_u32) (4 * (h + w)) d.1;
    }

-- all is fit for the work
pub fit : (b : Board) (f : ℕ) (s : Lent) → checked b f s ≡ 0
    → FactorIn f × FitPlanes (least_located f) b.height b.width s.planes × NoneShort b.height b.width s
fit b f s e =
    let a = passed (factor_outside f) 12 _ e in
    let p = planes_fit (least_located f) b.height b.width s.planes (slices_short b.height b.width s) a.1 in
    (factor_in f a.0, p.0, none_short b.height b.width s p.1)

-- a factor of a narrowing passes its test
factor_pass : (f : ℕ) → FactorIn f → factor_outside f ≡ false
unfolding outside
factor_pass f i = rw (le-ltb f least_factor i.low, le-ltb most_factor f i.high)

-- what the checks find of the planes, with a factor of a narrowing
pub checked_planes : (b : Board) (f : ℕ) (s : Lent) {least n : ℕ} {short : Bool} → FactorIn f → least ≡ least_located f
    → n ≡ planes_answer least b.height b.width s.planes short
    → (sides_outside least b.height b.width ≡ false
    → short ≡ slices_short b.height b.width (lent [] s.edges s.scores s.scratch_f32 s.scratch_u8 s.scratch_u32))
    → n ≡ checked b f s
checked_planes b f s {least} {n} {short} i l e same =
    let is = e ∙ answer_same least b.height b.width s.planes short (slices_short b.height b.width s)
    (λ o. same o ∙ short_same b.height b.width s) in
    rw (factor_pass f i) (rw l at is)
