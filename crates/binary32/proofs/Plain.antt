-- Plain values: binary32 numbers with the sign bit clear, which are ordered as their bits are. Assumes nothing.
use Rattle.std.proofs.Common.{◌≡◌, ℕ, ◌*◌, ◌<◌, ◌≤◌, max, Bool, true, false, cond, not, ◌&&◌, ◌||◌, T, eqb, ltb, leb, sym, refl, ap, ◌∙◌, ⊎_elim, le_of_lt, mod-eq_of_lt, eq-or-lt_of_le, arith, ltb-false, ltb-true, le-ltb, lt-ltb, eq-eqb, ne_eqb, leb-false, leb-true}
use lib.Ieee.{Float, nan, inf, fin, binary32, up, down, lt, le, fits, is_nan, nan_bits, to_bits, of_bits}
use lib.Ieee.Bits.{of_bits-fits, of_bits-to_bits, to_bits-of_bits, nan_bits_is, nan_bits_above}
use Rattle.binary32.specs.Binary32.{magnitude, larger}
use Rattle.binary32.proofs.Order.{NonNegative, finite_bits, order_of_bits}
use Rattle.binary32.proofs.Values.{fits_magnitude}
use Rattle.binary32.proofs.Numbers.{Number, magnitude_non_negative}

pub record Plain (x : Float) : Type 0 where
  pub positive : NonNegative x
  pub held : T (fits binary32 x)

pub plain_magnitude : (x : Float) → Number x → T (fits binary32 x) → Plain (magnitude x)
plain_magnitude x n f = record { positive = magnitude_non_negative x n; held = fits_magnitude x f }

pub plain_larger : {x y : Float} → Plain x → Plain y → Plain (larger x y)
unfolding larger
plain_larger {x} {y} p q = at (lt y x)
  where
    at : (t : Bool) → Plain (cond t x y)
    at true = p
    at false = q

-- plain values are those whose bits are at most the bits of infinity
pub plain_bits : (x : Float) → Plain x → to_bits binary32 x ≤ 0x7F800000
unfolding to_bits
plain_bits nan p = absurd p.positive
plain_bits (inf true) p = absurd p.positive
plain_bits (inf false) p = omega arith
plain_bits (fin true m e) p = absurd p.positive
plain_bits (fin false m e) p = le_of_lt (finite_bits m e p.held)

pub bits_plain : (x : Float) → T (fits binary32 x) → to_bits binary32 x ≤ 0x7F800000 → Plain x
unfolding to_bits
bits_plain nan f h = absurd (omega arith)
bits_plain (inf true) f h = absurd (omega arith)
bits_plain (inf false) f h = record { positive = tt; held = f }
bits_plain (fin true m e) f h = absurd (omega arith)
bits_plain (fin false m e) f h = record { positive = tt; held = f }

-- ---- values by their bits

pub bits_number : (b : ℕ) → b ≤ 0x7F800000 → nan_bits binary32 b ≡ false
bits_number b h =
    let l : b < 0x80000000 = omega arith in
    nan_bits_above binary32 b ∙ rw (mod-eq_of_lt l) (le-ltb 0x7F800000 b h)

pub bits_back : (b : ℕ) → b ≤ 0x7F800000 → to_bits binary32 (of_bits binary32 b) ≡ b
bits_back b h = to_bits-of_bits binary32 b (omega arith) (rw (sym (nan_bits_is binary32 b) ∙ bits_number b h) tt)

pub plain_of : (b : ℕ) → b ≤ 0x7F800000 → Plain (of_bits binary32 b)
plain_of b h = bits_plain (of_bits binary32 b) (of_bits-fits binary32 b) (omega (arith, bits_back b h))

pub plain_order : {x y : Float} → Plain x → Plain y → le x y ≡ leb (to_bits binary32 x) (to_bits binary32 y)
plain_order {x} {y} p q = order_of_bits x y p.held q.held p.positive q.positive

-- compared with a value given by its bits
pub at_most_bits : {x : Float} (b : ℕ) → Plain x → b ≤ 0x7F800000 → le x (of_bits binary32 b) ≡ leb (to_bits binary32 x) b
at_most_bits b p h = rw (bits_back b h) at (plain_order p (plain_of b h))

-- below is what is not at least
pub not_leb : (a b : ℕ) → ltb a b ≡ not (leb b a)
not_leb a b = at (leb b a) refl
  where
    at : (t : Bool) → leb b a ≡ t → ltb a b ≡ not t
    at true e = le-ltb a b (leb-true b a e)
    at false e = lt-ltb a b (leb-false b a e)

apart : (a b : ℕ) → ltb a b ≡ not (ltb b a || (eqb b a && true))
apart a b = at (ltb a b) refl
  where
    at : (t : Bool) → ltb a b ≡ t → t ≡ not (ltb b a || (eqb b a && true))
    at true e = let l = ltb-true a b e in rw (le-ltb b a (le_of_lt l), ne_eqb b a (λ q. omega arith))
    at false e = ⊎_elim (λ q. rw (le-ltb b a (omega arith), eq-eqb b a q)) (λ l. rw (lt-ltb b a l)) (eq-or-lt_of_le (ltb-false a b e))

lt_le : (x y : Float) → NonNegative x → NonNegative y → lt x y ≡ not (le y x)
unfolding lt le
lt_le nan y p q = absurd p
lt_le (inf true) y p q = absurd p
lt_le (inf false) nan p q = absurd q
lt_le (inf false) (inf true) p q = absurd q
lt_le (inf false) (inf false) p q = refl
lt_le (inf false) (fin true n d) p q = absurd q
lt_le (inf false) (fin false n d) p q = refl
lt_le (fin true m e) y p q = absurd p
lt_le (fin false m e) nan p q = absurd q
lt_le (fin false m e) (inf true) p q = absurd q
lt_le (fin false m e) (inf false) p q = refl
lt_le (fin false m e) (fin true n d) p q = absurd q
lt_le (fin false m e) (fin false n d) p q = apart (m * up e * down d) (n * up d * down e)

pub plain_below : {x y : Float} → Plain x → Plain y → lt x y ≡ ltb (to_bits binary32 x) (to_bits binary32 y)
plain_below {x} {y} p q =
    lt_le x y p.positive q.positive ∙ ap not (plain_order q p) ∙ sym (not_leb (to_bits binary32 x) (to_bits binary32 y))

pub above_bits : {x : Float} (b : ℕ) → Plain x → b ≤ 0x7F800000 → lt (of_bits binary32 b) x ≡ ltb b (to_bits binary32 x)
above_bits b p h = rw (bits_back b h) at (plain_below (plain_of b h) p)

pub below_bits : {x : Float} (b : ℕ) → Plain x → b ≤ 0x7F800000 → lt x (of_bits binary32 b) ≡ ltb (to_bits binary32 x) b
below_bits b p h = rw (bits_back b h) at (plain_below p (plain_of b h))

-- ---- the larger of two, by the bits

pub plain_number : (x : Float) → Plain x → Number x
unfolding is_nan
plain_number nan p = absurd p.positive
plain_number (inf s) p = tt
plain_number (fin s m e) p = tt

pub larger_by_bits : {x y : Float} → Plain x → Plain y → of_bits binary32 (max (to_bits binary32 x) (to_bits binary32 y)) ≡ larger x y
unfolding larger
larger_by_bits {x} {y} p q = rw (plain_below q p) (go (ltb (to_bits binary32 y) (to_bits binary32 x)) refl)
  where
    go : (t : Bool) → ltb (to_bits binary32 y) (to_bits binary32 x) ≡ t
        → of_bits binary32 (max (to_bits binary32 x) (to_bits binary32 y)) ≡ cond t x y
    go true e =
        let l = ltb-true (to_bits binary32 y) (to_bits binary32 x) e in
        let m : max (to_bits binary32 x) (to_bits binary32 y) ≡ to_bits binary32 x = omega arith in
        rw m (of_bits-to_bits binary32 x p.held)
    go false e =
        let l = ltb-false (to_bits binary32 y) (to_bits binary32 x) e in
        let m : max (to_bits binary32 x) (to_bits binary32 y) ≡ to_bits binary32 y = omega arith in
        rw m (of_bits-to_bits binary32 y q.held)
