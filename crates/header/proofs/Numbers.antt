-- Numbers in decimal: where their digits end, and what they are worth.
use Prim.Native.Nat.{ℕ, zero, suc, ◌+◌, ◌-◌, ◌*◌, ◌<◌, ◌≤◌}
use mathlib.Core.Path.{◌≡◌, refl, ap}
use mathlib.Core.Bool.{Bool, true, false, cond}
use mathlib.Core.List.{List, [], ◌∷◌}
use native.Mathlib.Numerals.{add-one}
use native.Mathlib.Omega.{arith}
use lib.ListN.{length, get_or}
use Rattle.std.specs.Char.{is_ascii_digit}
use Rattle.std.specs.List.{prefix_len}
use borrow.Author.Tests.{ltb-true, leb-true}
use lib.Dec.{leb, ltb}
use Rattle.std.proofs.lemmas.Bool.{and_parts}
use Rattle.std.specs.Prelude.{Result, Ok, Err, IfOk}
use Rattle.refusal.specs.declared.Refusal.{Refusal}
use Rattle.header.specs.declared.Numeral.{Numeral}
use Rattle.header.specs.declared.Sides.{Sides}
use Rattle.header.specs.Inner.{number_at, after}
use Rattle.refusal.specs.declared.Refusal.TheVariants.{BadNumber}
use Rattle.header.specs.Header.{is_digit, digit_count, digits_end, four_at_most, value_at, sized, numbers_at}

-- the digits that a list begins with, in std's words
pub count_is : (bytes : List ℕ) → prefix_len is_ascii_digit bytes ≡ digit_count bytes
unfolding is_digit
count_is [] = refl
count_is (b ∷ bytes) = ap (λ (n : ℕ). cond (is_digit b) n 0) (omega (arith, count_is bytes))

pub count_in : (bytes : List ℕ) → digit_count bytes ≤ length bytes
unfolding is_digit
count_in [] = omega arith
count_in (b ∷ bytes) = go (is_digit b) (count_in bytes)
  where
    go : (t : Bool) → digit_count bytes ≤ length bytes → cond t (suc (digit_count bytes)) 0 ≤ suc (length bytes)
    go true l = omega arith
    go false l = omega arith

-- what n digits are worth at most, where a digit is any byte
unfoldable pub worth : ℕ → ℕ
worth zero = 0
worth (suc n) = 10 * worth n + 207

pub worth_more : (n v d : ℕ) → v ≤ worth n → d ≤ 207 → 10 * v + d ≤ worth (n + 1)
unfolding worth
worth_more n v d l e = rw add-one (omega arith)

pub worth_small : (n : ℕ) → n ≤ 4 → worth n ≤ 300000
unfolding worth
worth_small zero h = omega arith
worth_small (suc zero) h = omega arith
worth_small (suc (suc zero)) h = omega arith
worth_small (suc (suc (suc zero))) h = omega arith
worth_small (suc (suc (suc (suc zero)))) h = omega arith
worth_small (suc (suc (suc (suc (suc n))))) h = absurd (omega arith)

-- one digit taken
pub value_more : (bytes : List ℕ) (k next end v d : ℕ) → next ≡ k + 1 → k < end → d ≡ get_or bytes k 0 - 48
    → value_at bytes next (end - next) (10 * v + d) ≡ value_at bytes k (end - k) v
value_more bytes k next end v d m l e =
    let n : end - k ≡ suc (end - (k + 1)) = omega arith in
    rw (n, m, add-one, e)

-- where a number has one to four digits
pub four_facts : (bytes : List ℕ) (from end mark : ℕ) → four_at_most bytes from end mark ≡ true → (from < end) × (end ≤ from + 4)
unfolding four_at_most
four_facts bytes from end mark e =
    let first = and_parts (ltb from end) _ e in
    let second = and_parts (leb end (from + 4)) _ first.1 in
    (ltb-true _ _ first.0, leb-true _ _ second.0)

-- a number, or none, and what is made of it
made_of : (b : Bool) (n : Numeral) (x : Result Sides Refusal) (made : Numeral → Result Sides Refusal) → x ≡ made n
    → cond b x (Err BadNumber) ≡ after (cond b (Ok n) (Err BadNumber)) made
made_of true n x made e = e
made_of false n x made e = refl

-- the same number by number
pub numbers_read : (bytes : List ℕ) (from : ℕ) → numbers_at bytes from
    ≡ after (number_at bytes from 32) (λ h. after (number_at bytes h.next 10) (λ w. sized h.value w.value w.next))
unfolding numbers_at number_at
numbers_read bytes from =
    let space = digits_end bytes from in
    let feed = digits_end bytes (space + 1) in
    made_of (four_at_most bytes from space 32) _ _ _ (made_of (four_at_most bytes (space + 1) feed 10) _ _ _ refl)

-- a number and its mark are at most five bytes
pub number_near : (bytes : List ℕ) (from mark : ℕ) → IfOk (number_at bytes from mark) (λ n. n.next ≤ from + 5)
unfolding number_at
number_near bytes from mark =
    let end = digits_end bytes from in
    go (four_at_most bytes from end mark) (value_at bytes from (end - from) 0) end (λ e. (four_facts bytes from end mark e).1)
  where
    go : (b : Bool) (value end : ℕ) → (b ≡ true → end ≤ from + 4)
        → IfOk (cond b (Ok (record { value = value; next = end + 1 })) (Err BadNumber)) (λ (n : Numeral). n.next ≤ from + 5)
    go true value end near = let l = near refl in omega arith
    go false value end near = tt
