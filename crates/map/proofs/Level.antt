-- The level of a unit is at most 255, as rounding keeps the order, and the level of a byte over 255.0 is the byte. Assumes nothing.
use Prim.Native.Nat.{ℕ, zero, suc, ◌+◌, ◌*◌, ◌<◌, ◌≤◌}
use mathlib.Core.Path.{◌≡◌, refl, ◌∙◌}
use mathlib.Core.Bool.{Bool, true, false, ◌&&◌}
use mathlib.Core.Logic.{⊎_elim}
use native.Mathlib.Nat.{mul-one, one-mul, eq-or-lt_of_le}
use native.Mathlib.Omega.{arith}
use borrow.Author.Tests.{eqb-true, leb-true}
use lib.Dec.{T, eqb}
use lib.IntN.{pos, negsuc}
use lib.Ieee.{Float, nan, inf, fin, binary32, up, down, round, sum, mul, add, div, of_int, of_bits, to_bits, to_unsigned, le, fits}
use lib.Ieee.Fits.{down_pos}
use lib.Ieee.Order.{round_mono}
use Rattle.std.proofs.lemmas.Float.{T_from_true}
use Rattle.binary32.specs.Binary32.{unit, trunc}
use Rattle.binary32.proofs.Order.{or_le, NonNegative, round_positive}
use Rattle.binary32.proofs.Plain.{bits_plain, at_most_bits}
use Rattle.binary32.proofs.Share.{cut_below}
use Rattle.std.proofs.lemmas.Bool.{and_parts}
use Rattle.load.specs.Load.{most_byte, level}
use Rattle.map.specs.Map.{green_level}

-- ---- bytes: worked out one by one

abbrev each_comes_back : ℕ → Bool
each_comes_back zero = true
each_comes_back (suc n) = eqb (green_level (level most_byte n)) n && each_comes_back n

all_come_back : each_comes_back 256 ≡ true
unfolding green_level level of_bits of_int div mul add to_unsigned
all_come_back = refl

comes_back : (n b : ℕ) → each_comes_back n ≡ true → b < n → eqb (green_level (level most_byte b)) b ≡ true
comes_back zero b e l = absurd (omega arith)
comes_back (suc n) b e l =
    let s = and_parts (eqb (green_level (level most_byte n)) n) (each_comes_back n) e in
    ⊎_elim (λ q. rw q s.0) (λ q. comes_back n b s.1 q) (eq-or-lt_of_le {n = b} {m = n} (omega arith))

pub byte_level : (b : ℕ) → b ≤ most_byte → green_level (level most_byte b) ≡ b
byte_level b l = eqb-true _ b (comes_back 256 b all_come_back (omega arith))

-- ---- any unit: rounding keeps the order

-- at most 255.0, and 0.5 more is at most 255.5
half_more : (x : Float) → NonNegative x → T (le x (fin false 255 (pos 0))) → trunc (add binary32 x (fin false 1 (negsuc 0))) < 256
unfolding le add sum
half_more nan p l = absurd p
half_more (inf true) p l = absurd p
half_more (inf false) p l = absurd l
half_more (fin true m e) p l = absurd p
half_more (fin false m e) p l =
    let o = or_le (m * up e * 1) (255 * down e) _ l in
    let h : (m * up e * 2 + 1 * down e) * 2 ≤ 511 * (down e * 2) = omega (arith, mul-one (m * up e)) in
    cut_below _ (round binary32 false 511 2) 256 1022 (refl, refl) (omega arith)
    (round_mono binary32 _ _ 511 2 (omega (arith, down_pos e)) (omega arith) h)

-- at most 1.0, and 255.0 times it is at most 255.0
times_most : (v : Float) → NonNegative v → T (le v (fin false 1 (pos 0)))
    → trunc (add binary32 (mul binary32 (fin false 255 (pos 0)) v) (fin false 1 (negsuc 0))) < 256
unfolding le mul
times_most nan p l = absurd p
times_most (inf true) p l = absurd p
times_most (inf false) p l = absurd l
times_most (fin true m e) p l = absurd p
times_most (fin false m e) p l =
    let n = m * up e in
    let o = or_le (n * 1) (1 * down e) _ l in
    let h : 255 * n * 1 ≤ 255 * (1 * down e) = omega (arith, mul-one n, one-mul (down e)) in
    half_more (round binary32 false (255 * n) (1 * down e)) (round_positive (255 * n) (1 * down e))
    (round_mono binary32 (255 * n) (1 * down e) 255 1 (omega (arith, down_pos e)) (omega arith) h)

pub level_most : (v : Float) → T (fits binary32 v) → unit v ≡ true → green_level v < 256
unfolding green_level unit of_bits
level_most v f u =
    let p = bits_plain v f (omega (arith, leb-true (to_bits binary32 v) 0x3F800000 u)) in
    times_most v p.positive (T_from_true _ (at_most_bits 0x3F800000 p (omega arith) ∙ u))
