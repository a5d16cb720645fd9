-- A number over the largest one is a unit, for any largest number that is a binary32: rounding keeps the order. Assumes nothing.
use Prim.Native.Nat.{ℕ, ◌*◌, ◌<◌, ◌≤◌}
use mathlib.Core.Path.{◌≡◌, refl, sym, ◌∙◌}
use mathlib.Core.Bool.{true, false, true≢false}
use native.Mathlib.Nat.{mul-one, zero-mul, mul-pos, lt_irrefl}
use native.Mathlib.Omega.{arith}
use borrow.Author.Tests.{ne_eqb}
use lib.IntN.{pos}
use lib.Ieee.{Float, nan, inf, fin, binary32, up, down, round, div, of_int, of_bits, le}
use lib.Ieee.Fits.{down_pos, round-fits}
use lib.Ieee.Exact.{HasValue}
use lib.Ieee.Order.{round_mono, transfer}
use Rattle.binary32.specs.Binary32.{float, unit}
use Rattle.binary32.proofs.Order.{is_true, round_positive}
use Rattle.binary32.proofs.Plain.{Plain, at_most_bits}
use Rattle.binary32.proofs.Values.{whole_value}
use Rattle.load.specs.Load.{most_byte, level}

one_is : round binary32 false 1 1 ≡ fin false 1 (pos 0)
unfolding round
one_is = refl

-- a fraction of at most 1, rounded
round_unit : (a b : ℕ) → 0 < b → a ≤ b → unit (round binary32 false a b) ≡ true
unfolding unit of_bits
round_unit a b B h =
    let x = round binary32 false a b in
    let p : Plain x = record { positive = round_positive a b; held = round-fits binary32 false a b } in
    let m : le x (fin false 1 (pos 0)) ≡ true = is_true _ (rw one_is at (round_mono binary32 a b 1 1 B (omega arith) (omega arith))) in
    sym (at_most_bits 0x3F800000 p (omega arith)) ∙ m

-- v / d for values x of v and y of d
quotient_unit : (x y : Float) (v d : ℕ) → HasValue x false v 1 → HasValue y false d 1 → 0 < d → v ≤ d → unit (div binary32 x y) ≡ true
unfolding div
quotient_unit nan y v d p q D h = absurd p
quotient_unit (inf s) y v d p q D h = absurd p
quotient_unit (fin true m e) y v d p q D h = absurd (true≢false p.0)
quotient_unit (fin false m e) nan v d p q D h = absurd q
quotient_unit (fin false m e) (inf t) v d p q D h = absurd q
quotient_unit (fin false m e) (fin true n k) v d p q D h = absurd (true≢false q.0)
quotient_unit (fin false m e) (fin false n k) v d p q D h =
    let y : n * up k ≡ d * down k = sym (mul-one (n * up k)) ∙ q.1 in
    let s : 0 < n * up k = rw y (mul-pos D (down_pos k)) in
    let some : n ≡ 0 → ⊥ = λ z. lt_irrefl 0 (rw (z, zero-mul (up k)) at s) in
    rw (ne_eqb n 0 some)
    (round_unit (m * up e * down k) (n * up k * down e) (mul-pos s (down_pos e))
    (transfer (m * up e) (n * up k) (down e) (down k) v d 1 1 (omega arith) (omega arith) p.1 q.1 (omega arith)))

pub level_unit : (top v : ℕ) → 0 < top → top ≤ 16777216 → v ≤ top → unit (level top v) ≡ true
unfolding level
level_unit top v z m h = quotient_unit (float v) (float top) v top (whole_value v (omega arith)) (whole_value top m) z h

-- what the code divides a byte by
pub byte_top : float most_byte ≡ of_bits binary32 0x437F0000
unfolding of_int round of_bits
byte_top = refl
