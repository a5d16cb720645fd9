-- The planes are cleared from the front on, and never what is still to be read: that is as it was, and the planes stay fit.
-- Assumes nothing.
use Prim.Native.Nat.{ℕ, ◌+◌, ◌*◌, ◌/◌, ◌%◌, ◌≤◌, ◌<◌}
use mathlib.Core.Path.{◌≡◌, refl, sym, ap}
use mathlib.Core.Bool.{Bool, true, false}
use mathlib.Core.List.{List}
use native.Mathlib.Nat.{add-mul, mul_assoc, mul-le-mul_left, mul-le-mul_right, div-add-mod', div-mul-le_self}
use native.Mathlib.Omega.{arith}
use borrow.Author.Tests.{ltb-true, ltb-false}
use lib.Dec.{T, ltb}
use lib.Ieee.{Float, nan, binary32, fits, of_bits, to_bits}
use lib.ListN.{get_or, replicate}
use Rattle.lists.specs.Front.{AtFront}
use Rattle.lists.proofs.Front.{same_at, same_beyond}
use Rattle.lists.proofs.Grid.{row_fits}
use Rattle.lists.proofs.Tab.{tab_same}
use Rattle.binary32.specs.Binary32.{unit}
use Rattle.binary32.specs.Inner.{IsUnit}
use Rattle.rank.specs.Rank.{ranked}
use Rattle.board.specs.Screen.{view}
use Rattle.board.specs.Inner.{FitPlanes}
use Rattle.narrow.specs.Narrow.{median, narrowed}
use Rattle.narrow.specs.Inner.{row_of, UnitPlanes}
use Rattle.narrow.proofs.Block.{unit_at}

abbrev pub zero32 : Float
zero32 = of_bits binary32 0

-- the first n values are 0.0, and the rest is as it was
abbrev pub Cleared : ℕ → List Float → List Float → Type 0
Cleared n before after = AtFront (replicate n zero32) before after

-- a unit of the format each
pub units_of : {h w : ℕ} {planes : List Float} → FitPlanes 0 h w planes → ((q : ℕ) → T (fits binary32 (get_or planes q nan)))
    → UnitPlanes h w planes
units_of p floats =
    record { sides = p.sides; there = p.there; units = λ q l. record { fit = floats q; small = unit_at p q l } }

zero_unit : IsUnit zero32
unfolding unit fits to_bits of_bits
zero_unit = record { fit = tt; small = refl }

pub cleared_units : (n : ℕ) {h w : ℕ} {lent out : List Float} → Cleared n lent out → UnitPlanes h w lent → UnitPlanes h w out
cleared_units n {h} {w} {lent} {out} x p =
    record { sides = p.sides; there = omega (arith, x.len, p.there); units = λ q l. at q l (ltb q n) refl }
  where
    at : (q : ℕ) → q < 3 * (h * w) → (t : Bool) → ltb q n ≡ t → IsUnit (get_or out q nan)
    at q l true e = rw (same_at zero32 nan n x q (ltb-true q n e)) zero_unit
    at q l false e = rw (same_beyond zero32 nan n x q (ltb-false q n e)) (p.units q l)

-- what row r of the points is made of lies past the r · f · w values that are cleared before it
lag : (f h w r u : ℕ) → let n = h / f in r * (f * w) ≤ r / n * (h * w) + (r % n * f + u) * w
lag f h w r u =
    let n = h / f in
    let a = r / n in
    let b = r % n in
    let whole : r * (f * w) ≡ (a * n + b) * (f * w) = ap (λ (k : ℕ). k * (f * w)) (sym (div-add-mod' r n)) in
    omega (
      arith,
      whole,
      add-mul (a * n) b (f * w),
      mul_assoc a n (f * w),
      mul_assoc n f w,
      mul_assoc b f w,
      add-mul (b * f) u w,
      mul-le-mul_left a (mul-le-mul_right w (div-mul-le_self h f)),
    )

-- so it is that of the planes as they came
pub row_same : (f h w r : ℕ) {lent out : List Float} → Cleared (r * (f * w)) lent out → let k = r / (h / f) in let i = r % (h / f) in
    row_of (narrowed f (view h w out)) k i ≡ row_of (narrowed f (view h w lent)) k i
unfolding median
row_same f h w r {lent} {out} x =
    tab_same (narrowed f (view h w lent)).width _ _
    (λ j c.
    ap (λ (t : List Float). ranked t (f * f / 2))
    (tab_same (f * f) _ _ (λ q d. same_beyond zero32 nan (r * (f * w)) x _ (omega (arith, lag f h w r (q / f))))))

-- what the loop clears is among the planes
pub bands_in : (f h w : ℕ) → 3 * (h / f) * (f * w) ≤ 3 * (h * w)
bands_in f h w =
    let n = h / f in
    omega (arith, mul_assoc 3 n (f * w), mul_assoc n f w, mul-le-mul_right w (div-mul-le_self h f))

pub band_in : (f h w : ℕ) {r : ℕ} → r < 3 * (h / f) → r * (f * w) + f * w ≤ 3 * (h * w)
band_in f h w {r} l = omega (arith, row_fits r (3 * (h / f)) (f * w) l, bands_in f h w)
