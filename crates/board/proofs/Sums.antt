-- Sums in lanes tell whether values are numbers: a sum with a NaN in it is one, and the sum of units is none. Assumes nothing.
use Rattle.std.proofs.Common.{◌≡◌, refl, ap, ℕ, zero, suc, ◌+◌, ◌*◌, ◌/◌, ◌%◌, ◌<◌, Bool, true, false, not, T, ltb, List, Float, length, get_or, arith, ⊎_elim, eq-or-lt_of_le}
use mathlib.Core.Bool.{false≢true}
use Rattle.std.specs.Bool.{MatchBool}
use Rattle.std.specs.List.{AllWithin, HoldsAt}
use lib.Ieee.{nan, inf, fin, binary32, add, is_nan, of_bits, to_bits}
use mir.Val.{bool_byte}
use Rattle.binary32.specs.Binary32.{unit}
use Rattle.binary32.proofs.Numbers.{Number, add_number, unit_finite}
use Rattle.binary32.proofs.Plain.{not_leb}
use Rattle.board.specs.Planes.{all_units}
use Rattle.board.specs.Inner.{lanes, lane, lane_sum, AllNumbers}
use Rattle.board.proofs.Units.{units_at}

-- a sum that is a number is one of two numbers
add_parts : (x y : Float) → Number (add binary32 x y) → Number x × Number y
unfolding add is_nan
add_parts nan y h = absurd h
add_parts (inf s) nan h = absurd h
add_parts (inf s) (inf t) h = (tt, tt)
add_parts (inf s) (fin t n d) h = (tt, tt)
add_parts (fin s m e) nan h = absurd h
add_parts (fin s m e) (inf t) h = (tt, tt)
add_parts (fin s m e) (fin t n d) h = (tt, tt)

sum_numbers : (f : ℕ → Float) (n : ℕ) → Number (lane_sum f n) → (k : ℕ) → k < n → Number (f k)
sum_numbers f zero h k l = absurd (omega arith)
sum_numbers f (suc n) h k l =
    let p = add_parts (lane_sum f n) (f n) h in
    ⊎_elim (λ e. rw e p.1) (λ b. sum_numbers f n p.0 k b) (eq-or-lt_of_le {n = k} {m = n} (omega arith))

sum_number : (f : ℕ → Float) (n : ℕ) → ((k : ℕ) → k < n → unit (f k) ≡ true) → Number (lane_sum f n)
unfolding of_bits is_nan
sum_number f zero h = tt
sum_number f (suc n) h = add_number (lane_sum f n) (f n) (sum_number f n (λ k l. h k (omega arith))) (unit_finite (f n) (h n (omega arith)))

-- every value lies in a lane
lanes_numbers : (values : List Float) → length values % lanes ≡ 0
    → ((l : ℕ) → l < lanes → Number (lane_sum (lane values l) (length values / lanes))) → AllNumbers values
lanes_numbers values whole h k k-in =
    let e : k / lanes * lanes + k % lanes ≡ k = omega arith in
    rw e at
    (sum_numbers (lane values (k % lanes)) (length values / lanes) (h (k % lanes) (omega arith)) (k / lanes) (omega arith))

lanes_units : (values : List Float) → all_units values ≡ true → (l : ℕ) → l < lanes
    → Number (lane_sum (lane values l) (length values / lanes))
lanes_units values u l l-in =
    sum_number (lane values l) (length values / lanes) (λ k k-in. units_at values (k * lanes + l) u (omega arith))

-- one row more
pub lane_more : (f : ℕ → Float) (k : ℕ) → lane_sum f (k + 1) ≡ add binary32 (lane_sum f k) (f k)
lane_more f k = let e : k + 1 ≡ suc k = omega arith in rw e refl

no_nan : (x : Float) → Number x → T (is_nan x) → ⊥
no_nan x = go (is_nan x)
  where
    go : (t : Bool) → T (not t) → T t → ⊥
    go true h k = h
    go false h k = k

-- what a search of the sums for a NaN tells of the values
pub searched : (values sums : List Float) (r : Bool) → length values % lanes ≡ 0 → length sums ≡ lanes
    → ((l : ℕ) → l < lanes → get_or sums l nan ≡ lane_sum (lane values l) (length values / lanes))
    → MatchBool r (AllWithin (λ x. Number x) sums 0 (length sums)) ((k : ℕ) × (k < length sums) × HoldsAt (λ x. T (is_nan x)) sums k)
    → (r ≡ true → AllNumbers values) × (all_units values ≡ true → r ≡ true)
searched values sums true whole long are h =
    (λ e. lanes_numbers values whole (λ l l-in. rw (are l l-in) at (h l nan (omega arith) (omega arith))), λ u. refl)
searched values sums false whole long are (l, l-in, bad) = (
  λ e. absurd (false≢true e),
  λ u. absurd (no_nan (get_or sums l nan) (rw (are l (omega arith)) (lanes_units values u l (omega arith))) (bad nan)),
)

-- what is counted is what is no unit
pub above_one : (x : Float) → bool_byte (ltb 0x3F800000 (to_bits binary32 x)) ≡ bool_byte (not (unit x))
unfolding unit
above_one x = ap bool_byte (not_leb 0x3F800000 (to_bits binary32 x))
