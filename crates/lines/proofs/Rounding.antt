-- Products with 0.4 and 0.8 in binary32, bounded by the exact ones: trunc(0.4·n) is below n, and e is above e · 0.8. Assumes nothing.
use Prim.Native.Nat.{ℕ, ◌-◌, ◌*◌, ◌≤◌, ◌<◌}
use mathlib.Core.Path.{◌≡◌, refl}
use mathlib.Core.Bool.{Bool, true, false}
use mathlib.Core.Logic.{⊎_elim}
use native.Mathlib.Nat.{eq-or-lt_of_le, mul_comm, mul-le-mul_right, div-le_of_le-mul}
use native.Mathlib.Omega.{arith}
use lib.Dec.{T}
use lib.Ieee.{Float, nan, inf, fin, binary32, le, mul, round, of_int, of_bits, to_unsigned, down, up}
use lib.Ieee.Exact.{HasValue}
use lib.Ieee.Order.{round_mono}
use lib.Ieee.Positive.{positive, own_value, positive_of_value, values_of_le, le_trans_positive, between, mul_at}
use Rattle.std.proofs.lemmas.Float.{T_from_true}
use Rattle.binary32.specs.Binary32.{float, trunc}
use Rattle.binary32.proofs.Values.{whole_value}
use Rattle.lines.specs.Lines.{narrow_gap}

whole_positive : (n : ℕ) → 1 ≤ n → n ≤ 4096 → T (positive (float n))
whole_positive n l h = positive_of_value (float n) n 1 (whole_value n (omega arith)) l

-- y is b / d, and 1.0 · y is above zero
record Is (y : Float) (b d : ℕ) : Type 0 where
  value : HasValue y false b d
  above : T (positive y)
  d_pos : 0 < d
  one : T (positive (mul binary32 (float 1) y))

four_tenths : Is (of_bits binary32 0x3ECCCCCD) 13421773 33554432
unfolding of_bits mul of_int
four_tenths = record { value = (refl, refl); above = tt; d_pos = omega arith; one = tt }

eight_tenths : Is (of_bits binary32 0x3F4CCCCD) 13421773 16777216
unfolding of_bits mul of_int
eight_tenths = record { value = (refl, refl); above = tt; d_pos = omega arith; one = tt }

product : {y : Float} {b d : ℕ} → Is y b d → (n : ℕ) → 1 ≤ n → n ≤ 4096 → mul binary32 (float n) y ≡ round binary32 false (n * b) (1 * d)
product {y} {b} {d} is n l h =
    let whole = whole_value n (omega arith) in
    mul_at binary32 (float n) y n 1 b d (whole_positive n l h) is.above (omega arith) is.d_pos whole is.value

-- where the exact product is at most m, so is the rounded one
product_le : {y : Float} {b d : ℕ} → Is y b d → (n m : ℕ) → 1 ≤ n → n ≤ 4096 → n * b ≤ m * d → T (le (mul binary32 (float n) y) (float m))
unfolding of_int
product_le {y} {b} {d} is n m l h k =
    rw (product is n l h) (round_mono binary32 (n * b) (1 * d) m 1 (omega (arith, is.d_pos)) (omega arith) (omega arith))

product_positive : {y : Float} {b d : ℕ} → Is y b d → (n m : ℕ) → 1 ≤ n → n ≤ 4096 → 1 ≤ m → m ≤ 4096 → n * b ≤ m * d
    → T (positive (mul binary32 (float n) y))
product_positive {y} {b} {d} is n m l h u q k =
    let p : 0 < 1 * d = omega (arith, is.d_pos) in
    let more = round_mono binary32 (1 * b) (1 * d) (n * b) (1 * d) p p (mul-le-mul_right (1 * d) (mul-le-mul_right b l)) in
    let low : T (le (mul binary32 (float 1) y) (mul binary32 (float n) y)) =
    rw (product is 1 (omega arith) (omega arith), product is n l h) more in
    between (mul binary32 (float 1) y) (mul binary32 (float n) y) (float m) is.one (whole_positive m u q) low (product_le is n m l h k)

cut_le : (z : Float) (m : ℕ) → T (positive z) → 1 ≤ m → m ≤ 4096 → T (le z (float m)) → trunc z ≤ m
unfolding to_unsigned
cut_le nan m p l h k = absurd p
cut_le (inf s) m p l h k = absurd p
cut_le (fin true n e) m p l h k = absurd p
cut_le (fin false n e) m p l h k =
    let z = fin false n e in
    let whole = whole_value m (omega arith) in
    let c = values_of_le z (float m) (n * up e) (down e) m 1 p (whole_positive m l h) (own_value z p) whole k in
    omega (arith, div-le_of_le-mul (down e) {m = n * up e} {n = m} (omega (arith, mul_comm m (down e))))

cut_one : trunc (mul binary32 (float 1) (of_bits binary32 0x3ECCCCCD)) ≡ 0
unfolding of_bits mul of_int to_unsigned
cut_one = refl

pub cut_below : (n : ℕ) → 1 ≤ n → n ≤ 4096 → trunc (mul binary32 (float n) (of_bits binary32 0x3ECCCCCD)) < n
cut_below n l h =
    ⊎_elim
    (λ e. rw (← e, cut_one) (omega arith))
    (λ g.
    let k : n * 13421773 ≤ (n - 1) * 33554432 = omega arith in
    let p = product_positive four_tenths n (n - 1) l h (omega arith) (omega arith) k in
    let under = product_le four_tenths n (n - 1) l h k in
    omega (arith, cut_le (mul binary32 (float n) (of_bits binary32 0x3ECCCCCD)) (n - 1) p (omega arith) (omega arith) under))
    (eq-or-lt_of_le l)

pub not_narrow : (e : ℕ) → 6 ≤ e → e ≤ 4096 → narrow_gap e e ≡ false
unfolding narrow_gap
not_narrow e l h = go (narrow_gap e e) refl
  where
    go : (t : Bool) → narrow_gap e e ≡ t → narrow_gap e e ≡ false
    go true q =
        let k : e * 13421773 ≤ (e - 1) * 16777216 = omega arith in
        let z = mul binary32 (float e) (of_bits binary32 0x3F4CCCCD) in
        let under = product_le eight_tenths e (e - 1) (omega arith) h k in
        let p = whole_positive e (omega arith) h in
        let r = whole_positive (e - 1) (omega arith) (omega arith) in
        let above = between (float e) z (float (e - 1)) p r (T_from_true _ q) under in
        let back = le_trans_positive (float e) z (float (e - 1)) p above r (T_from_true _ q) under in
        let whole = whole_value e (omega arith) in
        let less = whole_value (e - 1) (omega arith) in
        absurd (omega (arith, values_of_le (float e) (float (e - 1)) e 1 (e - 1) 1 p r whole less back))
    go false q = q
