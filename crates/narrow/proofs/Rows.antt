-- Row by row: the narrowed planes are laid out, and need no more room than one old plane; the planes are cleared behind what was read.
-- Assumes nothing.
use Prim.Native.Nat.{ℕ, ◌+◌, ◌-◌, ◌*◌, ◌/◌, ◌%◌, ◌<◌, ◌≤◌}
use mathlib.Core.Path.{◌≡◌}
use mathlib.Core.List.{List}
use native.Mathlib.Nat.{mul_assoc, mul-le-mul, mul-le-mul_left, zero-mul, one-mul, add-mul, mul-add, div-mul-le_self}
use native.Mathlib.Omega.{arith}
use lib.Dec.{T}
use lib.Ieee.{Float, nan, binary32, fits}
use lib.ListN.{length, take, drop, get_or}
use borrow.Rule.Slice.PartMut.{mid_of, put_mid}
use Rattle.lists.specs.Front.{AtFront}
use Rattle.lists.specs.Tab.{grid}
use Rattle.lists.proofs.Tab.{length_tab_from}
use Rattle.lists.proofs.Front.{front_none, front_part, front_kept, front_behind, same_more, same_over}
use Rattle.lists.proofs.Grid.{row_fits, grid_more}
use Rattle.board.specs.Screen.{packed, view}
use Rattle.board.specs.Inner.{FactorIn, FitPlanes}
use Rattle.board.proofs.Packed.{length_packed, plane_rows, packed_rows}
use Rattle.narrow.specs.Narrow.{narrowed, narrow}
use Rattle.narrow.specs.Inner.{row_of, UnitPlanes}
use Rattle.narrow.proofs.Clearing.{zero32, Cleared, units_of, cleared_units, row_same, bands_in, band_in}

-- the narrowed planes need no more room than one old plane
pub shrinks : (f h w : ℕ) → 2 ≤ f → 3 * (h / f * (w / f)) ≤ h * w
shrinks f h w l =
    let a = h / f in
    let b = w / f in
    omega (arith, mul-le-mul (half h) (half w), add-mul a a (b + b), mul-add a b b)
  where
    half : (n : ℕ) → n / f + n / f ≤ n
    half n = omega (arith, div-mul-le_self n f, mul-le-mul_left (n / f) l)

pub row_in : (f h w : ℕ) {r : ℕ} → 2 ≤ f → r < 3 * (h / f) → r * (w / f) + w / f ≤ h * w
row_in f h w {r} g l = omega (arith, row_fits r (3 * (h / f)) (w / f) l, mul_assoc 3 (h / f) (w / f), shrinks f h w g)

-- r rows of the narrowed planes are in `out`, and in `left` the rows of so many blocks are cleared
pub record Narrowing (f h w r : ℕ) (planes left lent out : List Float) : Type 0 where
  pub units : UnitPlanes h w planes
  pub cleared : Cleared (r * (f * w)) planes left
  pub front : AtFront (grid r (w / f) (plane_rows (narrowed f (view h w planes)))) lent out

pub narrowing_none : {f h w : ℕ} {planes lent : List Float} → FitPlanes 0 h w planes → ((q : ℕ) → T (fits binary32 (get_or planes q nan)))
    → Narrowing f h w 0 planes planes lent lent
narrowing_none p floats = record { units = units_of p floats; cleared = rw zero-mul front_none; front = rw zero-mul front_none }

module _ {f h w r : ℕ} {planes left lent out : List Float} (N : Narrowing f h w r planes left lent out) where
  pub still_units : UnitPlanes h w left
  still_units = cleared_units (r * (f * w)) N.cleared N.units

  pub narrowing_more : {row last : List Float}
      → AtFront (row_of (narrowed f (view h w left)) (r / (h / f)) (r % (h / f))) (mid_of (r * (w / f)) (length out - r * (w / f)) out) row
      → Cleared (f * w) (mid_of (r * (f * w)) (length left - r * (f * w)) left) last
      → Narrowing f h w (r + 1) planes (put_mid (r * (f * w)) (length left - r * (f * w)) left last) lent
      (put_mid (r * (w / f)) (length out - r * (w / f)) out row)
  narrowing_more x y =
      let next = rw (row_same f h w r N.cleared) at x in
      let rows = plane_rows (narrowed f (view h w planes)) in
      record {
        units = N.units;
        cleared = rw (add-mul r 1 (f * w), one-mul) (same_more zero32 (r * (f * w)) (f * w) N.cleared y);
        front = rw (grid_more r (w / f) rows) (front_behind (r * (w / f)) (length_tab_from 0 (r * (w / f)) _) N.front next);
      }

  pub all_rows : r ≡ 3 * (h / f) → AtFront (packed (narrowed f (view h w planes))) lent out
  all_rows e = rw (packed_rows (narrowed f (view h w planes))) (rw e at N.front)

  pub all_cleared : {last : List Float} → r ≡ 3 * (h / f) → let n = 3 * (h / f) * (f * w) in
      Cleared (3 * (h * w) - n) (mid_of n (length left - n) left) last
      → Cleared (3 * (h * w)) planes (put_mid n (length left - n) left last)
  all_cleared e y =
      let n = 3 * (h / f) * (f * w) in
      let rest = 3 * (h * w) - n in
      let all : n + rest ≡ 3 * (h * w) = omega (arith, bands_in f h w) in
      rw all at (same_more zero32 n rest (rw e at N.cleared) y)

module _ {f h w : ℕ} {planes lent out : List Float} (factor : FactorIn f) (fit : FitPlanes 0 h w planes)
    (front : AtFront (packed (narrowed f (view h w planes))) lent out) where
  -- copied over what was cleared
  pub copied : {left last : List Float} → let n = 3 * (h / f * (w / f)) in
      Cleared (3 * (h * w)) planes left → AtFront (take n out) left last → last ≡ narrow f h w planes
  copied x y =
      let n = 3 * (h / f * (w / f)) in
      let long = length_packed (narrowed f (view h w planes)) in
      (same_over zero32 n (3 * (h * w)) long (omega (arith, shrinks f h w factor.low)) x (rw (front_part n long front) at y)).is

  pub kept_behind : drop (h * w) out ≡ drop (h * w) lent
  kept_behind =
      let long = length_packed (narrowed f (view h w planes)) in
      front_kept (h * w) (omega (arith, long, shrinks f h w factor.low)) front

pub ruleset row_laws = (row_in, bands_in, band_in, still_units, narrowing_more)
