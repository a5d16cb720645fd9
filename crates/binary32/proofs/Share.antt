-- A share of m worked out in binary32 and cut to a whole number is below m, where the exact share is at most m - 1/4:
-- rounding keeps the order, and m - 1/4 is itself a binary32. Assumes nothing.
use Rattle.std.proofs.Common.{◌≡◌, ℕ, ◌-◌, ◌*◌, ◌/◌, ◌^◌, ◌<◌, ◌≤◌, true, false, T, pos, sym, refl, true≢false, lt_of_lt_of_le, mul_assoc, div-lt_iff_lt-mul, mul-lt-mul_of_pos_right, one-mul, arith, lit<, lit≤, shl_lt}
use lib.Ieee.{Float, nan, inf, fin, binary32, up, down, round, mul, of_int, le, to_unsigned}
use lib.Ieee.Fits.{down_pos}
use lib.Ieee.Exact.{HasValue, round_exact}
use lib.Ieee.Order.{round_mono, transfer}
use lib.Ieee.Positive.{mul_at, positive_of_value}
use Rattle.binary32.specs.Binary32.{trunc}
use Rattle.binary32.proofs.Order.{or_le}
use Rattle.binary32.proofs.Values.{whole_value}

-- what is at most q / 4 is cut to a number below m, where q is below 4 · m
pub cut_below : (x y : Float) (m q : ℕ) → HasValue y false q 4 → q < 4 * m → T (le x y) → trunc x < m
unfolding le to_unsigned
cut_below nan y m q v h l = omega arith
cut_below (inf true) y m q v h l = omega arith
cut_below (inf false) nan m q v h l = absurd v
cut_below (inf false) (inf s) m q v h l = absurd v
cut_below (inf false) (fin s n d) m q v h l = absurd l
cut_below (fin true k e) y m q v h l = omega arith
cut_below (fin false k e) nan m q v h l = absurd v
cut_below (fin false k e) (inf s) m q v h l = absurd v
cut_below (fin false k e) (fin true n d) m q v h l = absurd (true≢false v.0)
cut_below (fin false k e) (fin false n d) m q v h l =
    let o = or_le (k * up e * down d) (n * up d * down e) _ l in
    let c : k * up e * 4 ≤ q * down e =
    transfer _ q _ 4 (k * up e) (n * up d) (down e) (down d) (down_pos e) (down_pos d) refl (sym v.1) o in
    let s : q * down e < 4 * m * down e = mul-lt-mul_of_pos_right h (down_pos e) in
    let b : k * up e / down e < m = (div-lt_iff_lt-mul (down_pos e)).1 (omega (arith, mul_assoc 4 m (down e))) in
    omega arith

pub share_below : (x : Float) (a b m : ℕ) → HasValue x false a b → 0 < a → 0 < b → 0 < m → m ≤ 2 ^ 22 → m * a * 4 ≤ (4 * m - 1) * b
    → trunc (mul binary32 (of_int binary32 (pos m)) x) < m
share_below x a b m v A B M l h =
    let q = 4 * m - 1 in
    let w = whole_value m (omega arith) in
    let y = of_int binary32 (pos m) in
    let e : mul binary32 y x ≡ round binary32 false (m * a) (1 * b) =
    mul_at binary32 y x m 1 a b (positive_of_value y m 1 w M) (positive_of_value x a b v A) (lit< tt) B w v in
    rw (e, one-mul b)
    (cut_below (round binary32 false (m * a) b) (round binary32 false q 4) m q
    (round_exact binary32 false q 4 q 147 (lit< tt) (omega arith)
    (lt_of_lt_of_le (shl_lt 24 147 (omega arith)) (lit≤ tt)) (sym (mul_assoc q (2 ^ 147) 4)))
    (omega arith)
    (round_mono binary32 (m * a) b q 4 B (lit< tt) h))
