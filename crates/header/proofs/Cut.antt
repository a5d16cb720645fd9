-- The first two lines are read from the front of the input: a cut behind their longest form changes nothing. Digits that go on past it are
-- too many with the cut and without. Assumes nothing.
use Prim.Native.Nat.{ℕ, zero, suc, ◌+◌, ◌-◌, ◌≤◌, ◌<◌}
use mathlib.Core.Path.{◌≡◌, refl, ap}
use mathlib.Core.Bool.{Bool, true, false, cond, ◌&&◌}
use mathlib.Core.List.{List, [], ◌∷◌}
use mathlib.Core.Logic.{◌⊎◌, inl, inr, ⊎_elim}
use native.Mathlib.Nat.{not-suc-le-zero, le_of_suc-le-suc}
use native.Mathlib.Omega.{arith}
use borrow.Author.Tests.{lt-leb}
use lib.Dec.{eqb, ltb}
use lib.ListN.{length, take, drop}
use lib.Seq.{get_or-take}
use Rattle.lists.proofs.Part.{drop_take}
use Rattle.std.proofs.lemmas.Bool.{and_right}
use Rattle.header.specs.Header.{sides_line, begins, is_digit, digit_count, digits_end, four_at_most, value_at, sized, numbers_at, header_of}
use Rattle.std.specs.Prelude.{Result, Ok, Err, IfOk}
use Rattle.refusal.specs.declared.Refusal.{Refusal}
use Rattle.header.specs.declared.Numeral.{Numeral}
use Rattle.header.specs.Inner.{number_at, after}
use Rattle.header.proofs.Numbers.{numbers_read, number_near}

begins_front : (line bytes : List ℕ) (m : ℕ) → length line ≤ m → begins line (take m bytes) ≡ begins line bytes
begins_front [] bytes m h = refl
begins_front (x ∷ line) bytes zero h = absurd (not-suc-le-zero h)
begins_front (x ∷ line) [] (suc m) h = refl
begins_front (x ∷ line) (b ∷ bytes) (suc m) h = ap (λ (t : Bool). eqb x b && t) (begins_front line bytes m (le_of_suc-le-suc h))

value_front : (bytes : List ℕ) (m from n high : ℕ) → from + n ≤ m → value_at (take m bytes) from n high ≡ value_at bytes from n high
value_front bytes m from zero high h = refl
value_front bytes m from (suc n) high h = rw (get_or-take m bytes from 0 (omega arith)) (value_front bytes m (suc from) n _ (omega arith))

-- two numbers that are the same below a limit, or are both past it
abbrev Agree : ℕ → ℕ → ℕ → Type 0
Agree m a b = ((a ≡ b) × (b < m)) ⊎ ((m ≤ a) × (m ≤ b))

agree_more : (m a b : ℕ) → Agree m a b → Agree (suc m) (suc a) (suc b)
agree_more m a b = ⊎_elim (λ q. inl (ap suc q.0, omega arith)) (λ q. inr (omega arith, omega arith))

count_front : (m : ℕ) (l : List ℕ) → Agree m (digit_count (take m l)) (digit_count l)
count_front zero l = inr (omega arith, omega arith)
count_front (suc m) [] = inl (refl, omega arith)
count_front (suc m) (b ∷ l) = go (is_digit b) (count_front m l)
  where
    go : (t : Bool) → Agree m (digit_count (take m l)) (digit_count l)
        → Agree (suc m) (cond t (suc (digit_count (take m l))) 0) (cond t (suc (digit_count l)) 0)
    go true h = agree_more m (digit_count (take m l)) (digit_count l) h
    go false h = inl (refl, omega arith)

ends_front : (bytes : List ℕ) (m from : ℕ) → from ≤ m → Agree m (digits_end (take m bytes) from) (digits_end bytes from)
unfolding digits_end
ends_front bytes m from h =
    rw (drop_take from m bytes)
    (⊎_elim (λ q. inl (ap (λ (n : ℕ). from + n) q.0, omega arith)) (λ q. inr (omega arith, omega arith))
    (count_front (m - from) (drop from bytes)))

-- more than four
four_long : (bytes : List ℕ) (from end mark : ℕ) → from + 4 < end → four_at_most bytes from end mark ≡ false
unfolding four_at_most
four_long bytes from end mark l = rw (lt-leb end (from + 4) l) (and_right (ltb from end) false refl)

four_front : (bytes : List ℕ) (m from end mark : ℕ) → end < m → four_at_most (take m bytes) from end mark ≡ four_at_most bytes from end mark
unfolding four_at_most
four_front bytes m from end mark l = rw (get_or-take m bytes end 0 l)

number_front : (bytes : List ℕ) (m from mark : ℕ) → from + 5 ≤ m → number_at (take m bytes) from mark ≡ number_at bytes from mark
unfolding number_at
number_front bytes m from mark h =
    ⊎_elim
    (λ q. rw (q.0, four_front bytes m from (digits_end bytes from) mark q.1, value_front bytes m from (digits_end bytes from - from) 0 (omega arith)))
    (λ q. rw (
      four_long (take m bytes) from (digits_end (take m bytes) from) mark (omega arith),
      four_long bytes from (digits_end bytes from) mark (omega arith),
    ))
    (ends_front bytes m from (omega arith))

numbers_front : (bytes : List ℕ) (m from : ℕ) → from + 10 ≤ m → numbers_at (take m bytes) from ≡ numbers_at bytes from
numbers_front bytes m from h =
    rw (numbers_read (take m bytes) from, numbers_read bytes from, number_front bytes m from 32 (omega arith))
    (go (number_at bytes from 32) (number_near bytes from 32))
  where
    go : (n : Result Numeral Refusal) → IfOk n (λ h. h.next ≤ from + 5)
        → after n (λ h. after (number_at (take m bytes) h.next 10) (λ w. sized h.value w.value w.next))
        ≡ after n (λ h. after (number_at bytes h.next 10) (λ w. sized h.value w.value w.next))
    go (Ok n) l = rw (number_front bytes m n.next 10 (omega arith))
    go (Err r) l = refl

-- the first line has 13 bytes, the second at most 10
pub header_front : (bytes : List ℕ) (m : ℕ) → 23 ≤ m → header_of (take m bytes) ≡ header_of bytes
unfolding header_of
header_front bytes m h = rw (begins_front sides_line bytes m (omega arith), numbers_front bytes m 13 (omega arith))
