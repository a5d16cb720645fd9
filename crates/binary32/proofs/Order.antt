-- The order of the binary32 values that are not negative is the order of their bits. Assumes nothing.
use Rattle.std.proofs.Common.{◌≡◌, ℕ, zero, suc, ◌+◌, ◌*◌, ◌/◌, ◌%◌, ◌^◌, ◌<◌, ◌≤◌, Bool, true, false, cond, ◌&&◌, ◌||◌, T, eqb, ltb, leb, ℤ, sym, refl, ⊎_elim, true≢false, lt_of_lt_of_le, le_of_lt, mul-le-mul_right, mod-eq_of_lt, eq-or-lt_of_le, mul-le-mul_left, mul-lt-mul_of_pos_right, subst, pow-suc, lt_of_not-le, mul-one, not-le_of_lt, le_of_mul-le-mul_right, arith, eqb→eq, pow_pos, pow_mono, ltb-true, ne_eqb, le-leb, leb-false, leb-true}
use borrow.Author.Tests.{lt-leb}
use lib.Ieee.{Float, nan, inf, fin, binary32, up, down, of_fields, of_bits, to_bits, fits, le, round, units, odd}
use lib.Ieee.Bits.{of_bits-to_bits}
use Rattle.binary32.proofs.Values.{magnitude_lt}
use lib.Ieee.Fits.{down_pos, and_l, round_is}
use lib.Ieee.Exact.{HasValue, odd_sign}
use lib.Ieee.Order.{le_of_values, transfer}

-- the number that an exponent's field and the digits stand for, in units of 2 ^ -149
abbrev dig : ℕ → ℕ → ℕ
dig zero t = t
dig (suc x) t = (8388608 + t) * 2 ^ x

abbrev val : ℕ → ℕ
val b = dig (b / 8388608) (b % 8388608)

fields : (x t : ℕ) → x < 255 → HasValue (of_fields binary32 false x t) false (dig x t) (2 ^ 149)
unfolding of_fields
fields zero t h = rw mul-one at (odd_sign 24 false t 0 149)
fields (suc x) t h = rw (ne_eqb (suc x) 255 (λ e. omega arith)) (odd_sign 24 false (8388608 + t) x 149)

has : (b : ℕ) → b < 2139095040 → HasValue (of_bits binary32 b) false (val b) (2 ^ 149)
unfolding of_bits
has b h =
    let q : b < 2147483648 = omega arith in
    rw (lt-leb 2147483648 b q, mod-eq_of_lt q) (fields (b / 8388608) (b % 8388608) (omega arith))

-- a field's values lie below those of the next
under : (x t : ℕ) → t < 8388608 → dig x t < 8388608 * 2 ^ x
under zero t h = omega arith
under (suc x) t h =
    let p = mul-lt-mul_of_pos_right {m = 8388608 + t} {n = 8388608 + 8388608} {k = 2 ^ x} (omega arith) (pow_pos x) in
    omega (arith, p, pow-suc 2 x)

over : (x t : ℕ) → 8388608 * 2 ^ x ≤ dig (suc x) t
over x t = mul-le-mul_right (2 ^ x) (omega arith)

digits : (x t u : ℕ) → t < u → dig x t < dig x u
digits zero t u h = h
digits (suc x) t u h = mul-lt-mul_of_pos_right (omega arith) (pow_pos x)

field : (x y t u : ℕ) → x < y → t < 8388608 → dig x t < dig y u
field x zero t u h k = absurd (omega arith)
field x (suc y) t u h k =
    lt_of_lt_of_le (under x t k) (omega (arith, over y u, mul-le-mul_left 8388608 (pow_mono {i = x} {j = y} (omega arith))))

val_lt : (b c : ℕ) → b < c → val b < val c
val_lt b c h =
    ⊎_elim
    (λ e. rw e (digits (c / 8388608) (b % 8388608) (c % 8388608) (omega arith)))
    (λ l. field (b / 8388608) (c / 8388608) (b % 8388608) (c % 8388608) l (omega arith))
    (eq-or-lt_of_le {n = b / 8388608} {m = c / 8388608} (omega arith))

mono : (b c : ℕ) → b ≤ c → val b ≤ val c
mono b c l = ⊎_elim (λ e. rw e (omega arith)) (λ g. le_of_lt (val_lt b c g)) (eq-or-lt_of_le l)

pub or_le : (a b : ℕ) (r : Bool) → T (ltb a b || (eqb a b && r)) → a ≤ b
or_le a b r t = split (ltb a b) refl t
  where
    split : (s : Bool) → ltb a b ≡ s → T (s || (eqb a b && r)) → a ≤ b
    split true e w = le_of_lt (ltb-true a b e)
    split false e w = let q = eqb→eq a b (and_l (eqb a b) r w) in omega arith

le_back : (x y : Float) (a b d : ℕ) → 0 < d → HasValue x false a d → HasValue y false b d → T (le x y) → a ≤ b
unfolding le
le_back nan y a b d D p q h = absurd p
le_back (inf s) y a b d D p q h = absurd p
le_back (fin true m e) y a b d D p q h = absurd (true≢false p.0)
le_back (fin false m e) nan a b d D p q h = absurd q
le_back (fin false m e) (inf s) a b d D p q h = absurd q
le_back (fin false m e) (fin true n f) a b d D p q h = absurd (true≢false q.0)
le_back (fin false m e) (fin false n f) a b d D p q h =
    let l = or_le (m * up e * down f) (n * up f * down e) _ h in
    le_of_mul-le-mul_right
    (transfer a b d d (m * up e) (n * up f) (down e) (down f) (down_pos e) (down_pos f) (sym p.1) (sym q.1) l) D

pub is_true : (s : Bool) → T s → s ≡ true
is_true true h = refl
is_true false h = absurd h

is_f : (s : Bool) → (T s → ⊥) → s ≡ false
is_f true h = absurd (h tt)
is_f false h = refl

pub order : (b c : ℕ) → b < 2139095040 → c < 2139095040 → le (of_bits binary32 b) (of_bits binary32 c) ≡ leb b c
order b c h k = go (leb b c) refl
  where
    go : (s : Bool) → leb b c ≡ s → le (of_bits binary32 b) (of_bits binary32 c) ≡ s
    go true e =
        is_true _
        (le_of_values _ _ (val b) (2 ^ 149) (val c) (2 ^ 149) (pow_pos 149) (pow_pos 149) (has b h) (has c k)
        (mul-le-mul_right (2 ^ 149) (mono b c (leb-true b c e))))
    go false e =
        is_f _
        (λ t. not-le_of_lt (val_lt c b (leb-false b c e)) (le_back _ _ (val b) (val c) (2 ^ 149) (pow_pos 149) (has b h) (has c k) t))

-- ---- the same of values

-- a finite value or an infinity, with the sign bit clear
abbrev pub NonNegative : Float → Type 0
NonNegative nan = ⊥
NonNegative (inf true) = ⊥
NonNegative (inf false) = Unit
NonNegative (fin true m e) = ⊥
NonNegative (fin false m e) = Unit

-- a rounded value that is not negative has no sign
odd_positive : (d q k l : ℕ) → NonNegative (odd d false q k l)
unfolding odd
odd_positive d zero k l = tt
odd_positive d (suc q) k l = tt

units_positive : (q k : ℕ) → NonNegative (units binary32 false q k)
unfolding units
units_positive q k = go (ltb (q * 2 ^ k) (2 ^ 277))
  where
    go : (t : Bool) → NonNegative (cond t (odd 25 false q k 149) (inf false))
    go true = odd_positive 25 q k 149
    go false = tt

pub round_positive : (a b : ℕ) → NonNegative (round binary32 false a b)
round_positive a b = subst NonNegative (sym (round_is binary32 false a b)) (units_positive _ _)

no_value : (t s : Bool) (m : ℕ) (e : ℤ) → cond t (inf s) nan ≡ fin false m e → ⊥
no_value true s m e h = let z : ◌≡◌ {A = ℕ} 0 1 = cc in omega arith
no_value false s m e h = let z : ◌≡◌ {A = ℕ} 0 1 = cc in omega arith

-- from 7F800000 hexadecimal on the bits are those of an infinity or of no number
high : (b m : ℕ) (e : ℤ) → 2139095040 ≤ b → b < 2147483648 → of_bits binary32 b ≡ fin false m e → ⊥
unfolding of_bits of_fields
high b m e l h q =
    let x : b / 8388608 ≡ 255 = omega arith in
    no_value (eqb (b % 8388608) 0) (leb 2147483648 b) m e (rw (mod-eq_of_lt h, x) at q)

pub finite_bits : (m : ℕ) (e : ℤ) → T (fits binary32 (fin false m e)) → to_bits binary32 (fin false m e) < 2139095040
finite_bits m e h =
    lt_of_not-le
    (λ l. high (to_bits binary32 (fin false m e)) m e l (magnitude_lt (fin false m e) h) (of_bits-to_bits binary32 (fin false m e) h))

bits_of_inf : to_bits binary32 (inf false) ≡ 2139095040
unfolding to_bits
bits_of_inf = refl

pub order_of_bits : (x y : Float) → T (fits binary32 x) → T (fits binary32 y) → NonNegative x → NonNegative y
    → le x y ≡ leb (to_bits binary32 x) (to_bits binary32 y)
unfolding le
order_of_bits nan y f g p q = absurd p
order_of_bits (inf true) y f g p q = absurd p
order_of_bits (inf false) nan f g p q = absurd q
order_of_bits (inf false) (inf true) f g p q = absurd q
order_of_bits (inf false) (inf false) f g p q = rw bits_of_inf
order_of_bits (inf false) (fin true n d) f g p q = absurd q
order_of_bits (inf false) (fin false n d) f g p q = rw (bits_of_inf, lt-leb 2139095040 _ (finite_bits n d g))
order_of_bits (fin true m e) y f g p q = absurd p
order_of_bits (fin false m e) nan f g p q = absurd q
order_of_bits (fin false m e) (inf true) f g p q = absurd q
order_of_bits (fin false m e) (inf false) f g p q = rw (bits_of_inf, le-leb _ 2139095040 (le_of_lt (finite_bits m e f)))
order_of_bits (fin false m e) (fin true n d) f g p q = absurd q
order_of_bits (fin false m e) (fin false n d) f g p q =
    rw (of_bits-to_bits binary32 (fin false m e) f, of_bits-to_bits binary32 (fin false n d) g) at
    (order (to_bits binary32 (fin false m e)) (to_bits binary32 (fin false n d)) (finite_bits m e f) (finite_bits n d g))
