-- What the answer to planes shows: fit planes, and how fitness passes on. Assumes nothing.
use Prim.Native.Nat.{ℕ, ◌*◌, ◌≤◌}
use mathlib.Core.Path.{◌≡◌, refl}
use mathlib.Core.Bool.{Bool, true, false, not, cond, ◌||◌}
use mathlib.Core.List.{List}
use native.Mathlib.Omega.{arith}
use borrow.Author.Tests.{ltb-false, le-ltb}
use lib.Dec.{ltb}
use lib.Ieee.{Float}
use lib.ListN.{length, take}
use Rattle.board.specs.Board.{sides_outside}
use Rattle.board.specs.Planes.{all_units, planes_answer}
use Rattle.board.specs.Inner.{FitPlanes}
use Rattle.std.proofs.lemmas.Bool.{not-false, or_parts}
use Rattle.board.proofs.Sides.{passed, sides_in, sides_pass}

-- an answer of 0: the planes are fit, and no other slice is short
pub planes_fit : (least h w : ℕ) (planes : List Float) (short : Bool) → planes_answer least h w planes short ≡ 0
    → FitPlanes least h w planes × (short ≡ false)
unfolding planes_answer
planes_fit least h w planes short e =
    let a = passed (sides_outside least h w) 0 _ e in
    let b = passed (ltb (length planes) (3 * (h * w)) || short) 2 _ a.1 in
    let c = passed (not (all_units (take (3 * (h * w)) planes))) 3 0 b.1 in
    let n = or_parts (ltb (length planes) (3 * (h * w))) short b.0 in
    let there = ltb-false (length planes) (3 * (h * w)) n.0 in
    (record { sides = sides_in least h w a.0; there = there; units = not-false _ c.0 }, n.1)

pub fit_answer_lem : {least h w : ℕ} {planes : List Float} → FitPlanes least h w planes → planes_answer least h w planes false ≡ 0
unfolding planes_answer
fit_answer_lem {least} {h} {w} {planes} f = rw (sides_pass f.sides, le-ltb (length planes) (3 * (h * w)) f.there, f.units)

-- whether another slice is short matters only where the sides are within their limits
pub answer_same : (least h w : ℕ) (planes : List Float) (s t : Bool) → (sides_outside least h w ≡ false → s ≡ t)
    → planes_answer least h w planes s ≡ planes_answer least h w planes t
unfolding planes_answer
answer_same least h w planes s t e = go (sides_outside least h w) e
  where
    rest : Bool → ℕ
    rest b = cond (ltb (length planes) (3 * (h * w)) || b) 3 (cond (not (all_units (take (3 * (h * w)) planes))) 4 0)

    go : (b : Bool) → (b ≡ false → s ≡ t) → ◌≡◌ {A = ℕ} (cond b 1 (rest s)) (cond b 1 (rest t))
    go true e = refl
    go false e = rw (e refl)

-- a smaller least side
pub fit_lower : {least h w : ℕ} {planes : List Float} (lower : ℕ) → lower ≤ least → FitPlanes least h w planes → FitPlanes lower h w planes
fit_lower lower l f =
    let s = f.sides in
    record {
      sides = record {
        low_h = omega (arith, s.low_h);
        high_h = s.high_h;
        low_w = omega (arith, s.low_w);
        high_w = s.high_w;
        area = s.area;
      };
      there = f.there;
      units = f.units;
    }
