-- Single values: what the tests in the code tell of them, and the magnitude from the bits. Assumes nothing.
use Rattle.std.proofs.Common.{◌≡◌, ℕ, zero, suc, ◌+◌, ◌%◌, ◌<◌, ◌≤◌, true, false, cond, not, T, pos, refl, true≢false, mod-eq_of_lt, arith, le-leb}
use lib.Ieee.{Float, nan, inf, fin, binary32, ne, fits, is_nan, nan_bits, in_float, of_int, of_bits, to_bits, top}
use lib.Ieee.Exact.{HasValue}
use lib.Ieee.Back.{round_whole}
use lib.Ieee.Bits.{of_bits-to_bits, to_bits-lt, nan_bits_is}
use Rattle.std.proofs.lemmas.Float.{T_from_true}
use Rattle.binary32.specs.Binary32.{magnitude, unit}

pub nan_no_unit : (x : Float) → T (is_nan x) → unit x ≡ false
unfolding is_nan to_bits unit
nan_no_unit nan t = refl
nan_no_unit (inf s) t = absurd t
nan_no_unit (fin s m k) t = absurd t

pub no_nan : (x : Float) → ne x x ≡ false → T (not (is_nan x))
unfolding is_nan ne
no_nan nan e = absurd (true≢false e)
no_nan (inf s) e = tt
no_nan (fin s m k) e = tt

-- whole numbers up to 2 ^ 24 are values: what a cast to binary32 asks
pub in_float_lem : {n : ℕ} → n ≤ 16777216 → T (in_float binary32 (pos n))
unfolding in_float
in_float_lem {n} h = T_from_true _ (le-leb n 16777216 h)

pub whole_value : (n : ℕ) → n ≤ 16777216 → HasValue (of_int binary32 (pos n)) false n 1
unfolding of_int
whole_value n h = round_whole binary32 false n h

-- ---- the magnitude: the bits of a value differ from those of its magnitude in the sign alone

pub fits_magnitude : (x : Float) → T (fits binary32 x) → T (fits binary32 (magnitude x))
unfolding fits
fits_magnitude nan h = h
fits_magnitude (inf s) h = h
fits_magnitude (fin s zero e) h = h
fits_magnitude (fin s (suc m) e) h = h

-- the sign bit
abbrev sign_bit : Float → ℕ
sign_bit nan = 0
sign_bit (inf s) = cond s (top binary32) 0
sign_bit (fin s m e) = cond s (top binary32) 0

sign_apart : (x : Float) → to_bits binary32 x ≡ sign_bit x + to_bits binary32 (magnitude x)
unfolding to_bits
sign_apart nan = refl
sign_apart (inf true) = refl
sign_apart (inf false) = refl
sign_apart (fin true m e) = omega arith
sign_apart (fin false m e) = omega arith

-- the bits of a magnitude leave the sign bit clear: with it set they would still fit 32 bits
pub magnitude_lt : (x : Float) → T (fits binary32 x) → to_bits binary32 (magnitude x) < 0x80000000
unfolding fits to_bits
magnitude_lt nan h = omega arith
magnitude_lt (inf s) h = omega arith
magnitude_lt (fin s zero e) h = omega (arith, to_bits-lt binary32 (fin true zero e) h)
magnitude_lt (fin s (suc m) e) h = omega (arith, to_bits-lt binary32 (fin true (suc m) e) h)

sign_cut : (x : Float) → T (fits binary32 x) → to_bits binary32 x % 0x80000000 ≡ to_bits binary32 (magnitude x)
sign_cut nan h = mod-eq_of_lt (magnitude_lt nan h)
sign_cut (inf true) h = rw (sign_apart (inf true)) (omega (arith, magnitude_lt (inf true) h))
sign_cut (inf false) h = mod-eq_of_lt (magnitude_lt (inf false) h)
sign_cut (fin true m e) h = rw (sign_apart (fin true m e)) (omega (arith, magnitude_lt (fin true m e) h))
sign_cut (fin false m e) h = mod-eq_of_lt (magnitude_lt (fin false m e) h)

pub magnitude_is : (x : Float) → T (fits binary32 x) → of_bits binary32 (to_bits binary32 x % 0x80000000) ≡ magnitude x
magnitude_is x h = rw (sign_cut x h) (of_bits-to_bits binary32 (magnitude x) (fits_magnitude x h))

is_nan_magnitude : (x : Float) → is_nan (magnitude x) ≡ is_nan x
unfolding is_nan
is_nan_magnitude nan = refl
is_nan_magnitude (inf s) = refl
is_nan_magnitude (fin s m e) = refl

-- what is left of the bits of a number is no pattern of a NaN
pub magnitude_no_nan : (x : Float) → T (fits binary32 x) → T (not (is_nan x)) → T (not (nan_bits binary32 (to_bits binary32 x % 0x80000000)))
magnitude_no_nan x h n = rw (nan_bits_is binary32 (to_bits binary32 x % 0x80000000), magnitude_is x h, is_nan_magnitude x) n
