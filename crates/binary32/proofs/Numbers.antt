-- What is a number stays one: sums of finite values, magnitudes and larger ones are no NaN, and a magnitude has the
-- sign bit clear. Assumes nothing.
use Rattle.std.proofs.Common.{◌≡◌, ℕ, zero, suc, ◌+◌, ◌-◌, ◌*◌, ◌^◌, Bool, true, false, cond, not, ◌&&◌, T, ltb}
use mathlib.Core.Bool.{beq, false≢true}
use lib.Ieee.{Float, nan, inf, fin, binary32, up, down, odd, units, round, sum, neg, add, sub, is_nan, to_bits}
use lib.Ieee.Scale.{finite}
use lib.Ieee.Fits.{round_is}
use lib.Ieee.Order.{kept, drop}
use Rattle.binary32.specs.Binary32.{unit, magnitude}
use Rattle.binary32.proofs.Order.{NonNegative}

-- a number: finite or an infinity
abbrev pub Number : Float → Type 0
Number x = T (not (is_nan x))

number_units : (s : Bool) (q k : ℕ) → Number (units binary32 s q k)
unfolding units odd is_nan
number_units s q k = at (ltb (q * 2 ^ k) (2 ^ 277)) q
  where
    at : (t : Bool) (q : ℕ) → Number (cond t (odd 25 s q k 149) (inf s))
    at true zero = tt
    at true (suc q) = tt
    at false q = tt

number_round : (s : Bool) (n d : ℕ) → Number (round binary32 s n d)
number_round s n d = rw (round_is binary32 s n d) (number_units s (kept 24 (n * 2 ^ 149) d) (drop 24 (n * 2 ^ 149) d))

-- a finite value added to a number gives a number: only two infinities can give none
pub add_number : (x y : Float) → Number x → T (finite y) → Number (add binary32 x y)
unfolding add sum is_nan
add_number nan y p q = absurd p
add_number (inf s) nan p q = absurd q
add_number (inf s) (inf t) p q = absurd q
add_number (inf s) (fin t n d) p q = tt
add_number (fin s m e) nan p q = absurd q
add_number (fin s m e) (inf t) p q = absurd q
add_number (fin s m e) (fin t n d) p q =
    let a = m * up e * down d in
    let b = n * up d * down e in
    at a b (beq s t) (ltb a b) (s && ltb b a)
  where
    at : (a b : ℕ) (z w u : Bool)
        → let c = down e * down d in
        Number (cond z (round binary32 s (a + b) c) (cond w (round binary32 t (b - a) c) (round binary32 u (a - b) c)))
    at a b true w u = number_round s (a + b) (down e * down d)
    at a b false true u = number_round t (b - a) (down e * down d)
    at a b false false u = number_round u (a - b) (down e * down d)

pub neg_finite : (x : Float) → T (finite x) → T (finite (neg x))
unfolding neg
neg_finite nan h = h
neg_finite (inf s) h = h
neg_finite (fin s m e) h = h

pub finite_number : (x : Float) → T (finite x) → Number x
unfolding is_nan
finite_number nan h = h
finite_number (inf s) h = tt
finite_number (fin s m e) h = tt

pub sub_number : (x y : Float) → Number x → T (finite y) → Number (sub binary32 x y)
unfolding sub
sub_number x y p q = add_number x (neg y) p (neg_finite y q)

-- 0.0 to 1.0 is finite
pub unit_finite : (x : Float) → unit x ≡ true → T (finite x)
unfolding unit to_bits
unit_finite nan e = absurd (false≢true e)
unit_finite (inf true) e = absurd (false≢true e)
unit_finite (inf false) e = absurd (false≢true e)
unit_finite (fin s m k) e = tt

pub magnitude_non_negative : (x : Float) → Number x → NonNegative (magnitude x)
unfolding is_nan
magnitude_non_negative nan h = absurd h
magnitude_non_negative (inf s) h = tt
magnitude_non_negative (fin s m e) h = tt
