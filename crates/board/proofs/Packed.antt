-- The packed planes of a screen: how many values they are, the plane, the row and the column of each, that they show the
-- screen, the same row by row, and that they are units if the screen's points are. Assumes nothing.
use Prim.Native.Nat.{ℕ, ◌+◌, ◌*◌, ◌/◌, ◌%◌, ◌<◌}
use mathlib.Core.Path.{◌≡◌, ap, sym, ◌∙◌}
use mathlib.Core.Bool.{true}
use native.Mathlib.Nat.{mul_comm, mul_assoc, div-div-eq-div-mul, mod-lt}
use native.Mathlib.Omega.{arith}
use lib.Arith.{digits_lt, digits_div, digits_mod, mod-mul}
use lib.Ieee.{Float, nan}
use lib.ListN.{length}
use Rattle.lists.specs.Tab.{grid}
use Rattle.lists.proofs.Tab.{length_tab_from, get_or_tab, tab_same}
use Rattle.lists.proofs.Grid.{row_column}
use Rattle.binary32.specs.Binary32.{unit}
use Rattle.board.specs.Planes.{all_units}
use Rattle.board.specs.Screen.{Screen, packed, view}
use Rattle.board.proofs.Units.{units_all}

-- the plane, the row and the column of a place among planes
pub point_in : (h w q : ℕ) → q < 3 * (h * w) → (q / (h * w) < 3) × (q % (h * w) / w < h) × (q % (h * w) % w < w)
point_in h w q l =
    let plane = row_column 3 (h * w) q l in
    let point = row_column h w (q % (h * w)) plane.1 in
    (plane.0, point.0, point.1)

-- the value at place q of the packed planes
abbrev point_at : Screen → ℕ → Float
point_at s q = s.px (q / (s.height * s.width)) (q % (s.height * s.width) / s.width) (q % (s.height * s.width) % s.width)

pub length_packed : (s : Screen) → length (packed s) ≡ 3 * (s.height * s.width)
length_packed s = length_tab_from 0 (3 * (s.height * s.width)) (point_at s)

-- the screen that they hold
pub view_packed : (s : Screen) (k i j : ℕ) → k < 3 → i < s.height → j < s.width
    → (view s.height s.width (packed s)).px k i j ≡ s.px k i j
view_packed s k i j k-in i-in j-in =
    let n = s.height * s.width in
    let q = k * n + (i * s.width + j) in
    let p = digits_lt i-in j-in in
    let rest = digits_mod k p in
    let plane = digits_div k p in
    let row = ap (λ (m : ℕ). m / s.width) rest ∙ digits_div i j-in in
    let column = ap (λ (m : ℕ). m % s.width) rest ∙ digits_mod i j-in in
    let point : point_at s q ≡ s.px k i j = cc in
    get_or_tab (3 * n) q (point_at s) nan (digits_lt k-in p) ∙ point

pub packed_units : (s : Screen) → ((k i j : ℕ) → k < 3 → i < s.height → j < s.width → unit (s.px k i j) ≡ true)
    → all_units (packed s) ≡ true
packed_units s u =
    units_all (packed s)
    (λ q b.
    let below : q < 3 * (s.height * s.width) = omega (arith, length_packed s) in
    let at = point_in s.height s.width q below in
    rw (get_or_tab (3 * (s.height * s.width)) q (point_at s) nan below) (u _ _ _ at.0 at.1 at.2))

-- the rows of all planes, one plane after another: row r of all is row r % height of plane r / height
abbrev pub plane_rows : Screen → ℕ → ℕ → Float
plane_rows s r = s.px (r / s.height) (r % s.height)

pub packed_rows : (s : Screen) → packed s ≡ grid (3 * s.height) s.width (plane_rows s)
packed_rows s = rw (mul_assoc 3 h w) (tab_same (3 * (h * w)) (point_at s) (λ q. plane_rows s (q / w) (q % w)) same)
  where
    h : ℕ
    h = s.height

    w : ℕ
    w = s.width

    same : (q : ℕ) → q < 3 * (h * w) → point_at s q ≡ plane_rows s (q / w) (q % w)
    same q l =
        let in_row = point_in h w q l in
        let rest = mod-mul q {m = h} {c = w} (omega (arith, in_row.1)) (omega (arith, in_row.2)) in
        let column : q % w < w = mod-lt q (omega (arith, in_row.2)) in
        let plane : q / (h * w) ≡ q / w / h = rw (mul_comm h w) (sym (div-div-eq-div-mul q w h)) in
        let i = ap (λ (n : ℕ). n / w) rest ∙ digits_div (q / w % h) column in
        let j = ap (λ (n : ℕ). n % w) rest ∙ digits_mod (q / w % h) column in
        cc
