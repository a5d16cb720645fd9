-- The middle entry of a list of any length by passes. A pass drops one value below the entry asked for and one above, since its window
-- has more values than stand on either side: whether more than n / 2 - t of what is left after t passes are at most v stays the same.
-- Assumes nothing.
use Prim.Native.Nat.{ℕ, min, ◌+◌, ◌-◌, ◌*◌, ◌/◌, ◌≤◌, ◌<◌}
use mathlib.Core.Path.{◌≡◌, refl, sym, ◌∙◌}
use mathlib.Core.Bool.{Bool, true, false, ◌&&◌}
use mathlib.Core.Logic.{⊎_elim, ◌⊎◌, inl, inr}
use native.Mathlib.Nat.{eq-or-lt_of_le}
use native.Mathlib.Omega.{arith}
use borrow.Author.Tests.{ltb-true, ltb-false, lt-ltb, le-ltb}
use lib.Dec.{ltb}
use Rattle.lists.specs.Picture.{bit}
use Rattle.lists.specs.Tab.{tab}
use Rattle.lists.proofs.Tab.{length_tab_from}
use Rattle.rank.specs.Rank.{self}
use Rattle.rank.proofs.Entry.{entry_key}
use Rattle.rank.proofs.Members.{tab_has}
use Rattle.select.specs.Inner.{middle_of, chosen, many, Dropped}
use Rattle.select.proofs.Counts.{under, many_le, many_add, many_one, many_two, many_same, under_max}

-- after t passes the entry asked for is entry n / 2 - t of the values from 2 t on
pub record Left (n t : ℕ) (p q : ℕ → ℕ) : Type 0 where
  rank : (v : ℕ) → ltb (n / 2 - t) (many v (2 * t) (n - 2 * t) q) ≡ ltb (n / 2) (many v 0 n p)

pub left_none : {n : ℕ} {p : ℕ → ℕ} → Left n 0 p p
left_none {n} =
    let a : n / 2 - 0 ≡ n / 2 = omega arith in
    let b : n - 2 * 0 ≡ n = omega arith in
    record { rank = λ v. rw (a, b) }

drop_two : (r w u d : ℕ) → u ≤ r → r + 1 ≤ d → w ≤ d + 2 → ltb (r + 1) (w + u) ≡ ltb r (min (w - 1) d + u)
drop_two r w u d a b c = go (ltb (r + 1) (w + u)) refl
  where
    go : (t : Bool) → ltb (r + 1) (w + u) ≡ t → t ≡ ltb r (min (w - 1) d + u)
    go true e = sym (lt-ltb r (min (w - 1) d + u) (omega (arith, ltb-true (r + 1) (w + u) e)))
    go false e = sym (le-ltb r (min (w - 1) d + u) (omega (arith, ltb-false (r + 1) (w + u) e)))

-- a window of d + 2 values, and m behind it
left_rank : (v s d e m r : ℕ) (p q : ℕ → ℕ) → e ≡ s + 2 + d → m ≤ r → r + 1 ≤ d
    → many v (s + 2) d q ≡ min (many v s (d + 2) p - 1) d → ((k : ℕ) → e ≤ k → q k ≡ p k)
    → ltb (r + 1) (many v s (d + 2 + m) p) ≡ ltb r (many v (s + 2) (d + m) q)
left_rank v s d e m r p q h a b c same =
    let i : s + (d + 2) ≡ e = omega arith in
    let u = many_le v e m p in
    rw (many_add v s (d + 2) m p, many_add v (s + 2) d m q, i, ← h, many_same v e m p q (λ k l g. same k l), c)
    (drop_two r (many v s (d + 2) p) (many v e m p) d (omega arith) b (many_le v s (d + 2) p))

-- where the window of pass t ends, and how much is in it, is behind it and is below the entry asked for
record Window (n t : ℕ) : Type 0 where
  next : 2 * (t + 1) ≡ 2 * t + 2
  ends : n / 2 + 2 + t ≡ 2 * t + 2 + (n / 2 - t)
  inner : n / 2 + 2 + t - (2 * t + 2) ≡ n / 2 - t
  whole : n / 2 + 2 + t - 2 * t ≡ n / 2 - t + 2
  before : n - 2 * t ≡ n / 2 - t + 2 + (n - (n / 2 + 2 + t))
  after : n - (2 * t + 2) ≡ n / 2 - t + (n - (n / 2 + 2 + t))
  rank : n / 2 - t ≡ n / 2 - (t + 1) + 1
  few : n - (n / 2 + 2 + t) ≤ n / 2 - (t + 1)
  wide : n / 2 - (t + 1) + 1 ≤ n / 2 - t

window : (n t : ℕ) → t < (n - 1) / 2 → Window n t
window n t l =
    record {
      next = omega arith;
      ends = omega arith;
      inner = omega arith;
      whole = omega arith;
      before = omega arith;
      after = omega arith;
      rank = omega arith;
      few = omega arith;
      wide = omega arith;
    }

pub left_more : {n t : ℕ} {p q q' : ℕ → ℕ} → t < (n - 1) / 2 → Left n t p q → Dropped (2 * t) (n / 2 + 2 + t) q q'
    → Left n (t + 1) p q'
left_more {n} {t} {p} {q} {q'} l L P =
    record {
      rank = λ v.
          let w = window n t l in
          let c =
          left_rank v (2 * t) (n / 2 - t) (n / 2 + 2 + t) (n - (n / 2 + 2 + t)) (n / 2 - (t + 1)) q q' w.ends w.few w.wide
          (rw (w.inner, w.whole) at (P.counts v))
          P.beyond in
          rw (w.next, w.after) (sym c ∙ rw (← w.rank, ← w.before) (L.rank v));
    }

-- ---- what is left in the end

last_one : (a : Bool) → (a && a) ≡ ltb 0 (bit a)
last_one true = refl
last_one false = refl

last_two : (a b : Bool) → (a && b) ≡ ltb 1 (bit a + bit b)
last_two true true = refl
last_two true false = refl
last_two false true = refl
last_two false false = refl

-- one value from s up to n, or two
record Ends (n s size : ℕ) : Type 0 where
  last : n - 1 ≡ s + (size - 1)
  size_is : n - s ≡ size

ending : (n : ℕ) → 0 < n → let s = 2 * ((n - 1) / 2) in Ends n s 1 ⊎ Ends n s 2
ending n z =
    ⊎_elim (λ e. inl record { last = omega arith; size_is = omega arith }) (λ l. inr record { last = omega arith; size_is = omega arith })
    (eq-or-lt_of_le {n = 2 * ((n - 1) / 2)} {m = n - 1} (omega arith))

-- the larger of them
last_is : (v n s : ℕ) (q : ℕ → ℕ) → Ends n s 1 ⊎ Ends n s 2
    → (under v (q s) && under v (q (n - 1))) ≡ ltb (n - s - 1) (many v s (n - s) q)
last_is v n s q (inl e) = let z : s + 0 ≡ s = omega arith in rw (e.last, e.size_is, z, many_one v s q) (last_one (under v (q s)))
last_is v n s q (inr e) = rw (e.last, e.size_is, many_two v s q) (last_two (under v (q s)) (under v (q (s + 1))))

pub left_all : {n : ℕ} {p q : ℕ → ℕ} → 0 < n → Left n ((n - 1) / 2) p q → chosen n q ≡ middle_of n p
left_all {n} {p} {q} z L =
    let s = 2 * ((n - 1) / 2) in
    let r : n / 2 - (n - 1) / 2 ≡ n - s - 1 = omega arith in
    entry_key self 0 (chosen n q) (tab n p) (n / 2) (omega (arith, length_tab_from 0 n p))
    (λ v. under_max v (q s) (q (n - 1)) ∙ last_is v n s q (ending n z) ∙ rw (← r) (L.rank v))

-- what bounds the values bounds the middle one
pub middle_le : (b : ℕ) {n : ℕ} {p : ℕ → ℕ} → 0 < n → ((k : ℕ) → k < n → p k ≤ b) → middle_of n p ≤ b
middle_le b {n} {p} z h = tab_has self 0 (λ (x : ℕ). x ≤ b) n (n / 2) p (omega arith) h
