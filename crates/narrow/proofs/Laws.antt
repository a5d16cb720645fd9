-- What narrowing leaves, over the factor f: as many values as before, and planes that are fit again. Assumes nothing.
use Prim.Native.Nat.{ℕ, ◌+◌, ◌-◌, ◌*◌, ◌/◌, ◌%◌, ◌≤◌, ◌<◌}
use mathlib.Core.Path.{◌≡◌, ap, ◌∙◌}
use mathlib.Core.Bool.{true}
use mathlib.Core.List.{List, append_assoc}
use native.Mathlib.Nat.{mul-pos, mul-le-mul, div-le_self}
use native.Mathlib.Omega.{arith}
use lib.Ieee.{Float, nan, binary32, of_bits, to_bits}
use lib.ListN.{length, take, replicate, length-append, length-drop, length-replicate}
use lib.Seq.{take_at}
use Rattle.lists.proofs.Grid.{row_column}
use Rattle.rank.proofs.Members.{tab_has}
use Rattle.binary32.specs.Binary32.{unit}
use Rattle.board.specs.Screen.{packed, view}
use Rattle.board.specs.Planes.{all_units}
use Rattle.board.specs.Inner.{FitPlanes}
use Rattle.board.proofs.Packed.{length_packed, packed_units}
use Rattle.narrow.specs.Narrow.{median, narrowed, narrow}
use Rattle.narrow.proofs.Block.{unit_at, block_lt}

-- the middle one of a block is one of it
median_has : (P : Float → Type 0) (f : ℕ) → 0 < f → (a : ℕ → ℕ → Float) (i j : ℕ) →
    ((u v : ℕ) → u < f → v < f → P (a (i * f + u) (j * f + v))) → P (median f a i j)
unfolding median
median_has P f l a i j h =
    tab_has (to_bits binary32) nan P (f * f) (f * f / 2) (λ k. a (i * f + k / f) (j * f + k % f)) (omega (arith, mul-pos l l))
    (λ k b. let at = row_column f f k b in h (k / f) (k % f) at.0 at.1)

pub smaller : (f h w : ℕ) → h / f * (w / f) ≤ h * w
smaller f h w = mul-le-mul (div-le_self h f) (div-le_self w f)

pub narrow_length : (f h w : ℕ) (planes : List Float) → 3 * (h * w) ≤ length planes → length (narrow f h w planes) ≡ length planes
narrow_length f h w planes l = simp (length-append, length_packed, length-replicate, length-drop) (omega (arith, smaller f h w))

-- the narrowed planes are units
narrowed_units : (f h w : ℕ) (planes : List Float) → 0 < f → FitPlanes 0 h w planes
    → all_units (packed (narrowed f (view h w planes))) ≡ true
narrowed_units f h w planes l p =
    packed_units (narrowed f (view h w planes))
    (λ k i j a b c. median_has (λ x. unit x ≡ true) f l ((view h w planes).px k) i j (λ u v d e. unit_at p _ (block_lt h w a b c d e)))

-- sides that are not too small stay within the limits, and what they hold can be narrowed again
pub narrow_fit : {h w : ℕ} {planes : List Float} (f : ℕ) → 2 ≤ f → (least : ℕ) → FitPlanes 0 h w planes → least ≤ h / f → least ≤ w / f
    → FitPlanes least (h / f) (w / f) (narrow f h w planes)
narrow_fit {h} {w} {planes} f l least p a b =
    let s = narrowed f (view h w planes) in
    let n = 3 * (h / f * (w / f)) in
    let front : take n (narrow f h w planes) ≡ packed s =
    rw (append_assoc (packed s) (replicate (3 * (h * w) - n) (of_bits binary32 0)) _) (take_at (packed s) _ n (length_packed s)) in
    record {
      sides = record {
        low_h = a;
        high_h = omega (arith, div-le_self h f, p.sides.high_h);
        low_w = b;
        high_w = omega (arith, div-le_self w f, p.sides.high_w);
        area = omega (arith, smaller f h w, p.sides.area);
      };
      there = omega (arith, smaller f h w, narrow_length f h w planes p.there, p.there);
      units = ap all_units front ∙ narrowed_units f h w planes (omega arith) p;
    }
