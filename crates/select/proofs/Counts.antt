-- How many values of a stretch of a list are at most v, and what choosing the smaller or the larger of two makes of that test.
-- Assumes nothing.
use Prim.Native.Nat.{ℕ, zero, suc, min, max, ◌+◌, ◌≤◌, ◌<◌}
use mathlib.Core.Path.{◌≡◌, refl, ◌∙◌}
use mathlib.Core.Bool.{Bool, true, false, ◌&&◌, ◌||◌}
use native.Mathlib.Omega.{arith}
use borrow.Author.Tests.{leb-true, leb-false, le-leb, lt-leb}
use lib.Dec.{leb}
use Rattle.lists.specs.Picture.{bit}
use Rattle.lists.specs.Tab.{tab_from}
use Rattle.lists.proofs.Count.{count_le}
use Rattle.lists.proofs.Tab.{length_tab_from}
use Rattle.rank.specs.Rank.{self}
use Rattle.rank.specs.Inner.{at_most}
use Rattle.select.specs.Inner.{many}

-- whether x is at most v
abbrev pub under : ℕ → ℕ → Bool
under v x = at_most self v x

-- ---- counts

pub many_le : (v from m : ℕ) (p : ℕ → ℕ) → many v from m p ≤ m
many_le v from m p = omega (arith, count_le (at_most self v) (tab_from from m p), length_tab_from from m p)

pub many_add : (v from m n : ℕ) (p : ℕ → ℕ) → many v from (m + n) p ≡ many v from m p + many v (from + m) n p
many_add v from zero n p =
    let e : from + 0 ≡ from = omega arith in
    let z : 0 + n ≡ n = omega arith in
    rw (e, z) (omega arith)
many_add v from (suc m) n p =
    let e : suc m + n ≡ suc (m + n) = omega arith in
    let g : from + suc m ≡ suc from + m = omega arith in
    rw (e, g) (omega (arith, many_add v (suc from) m n p))

pub many_one : (v from : ℕ) (p : ℕ → ℕ) → many v from 1 p ≡ bit (under v (p from))
many_one v from p = omega arith

pub many_two : (v s : ℕ) (p : ℕ → ℕ) → many v s 2 p ≡ bit (under v (p s)) + bit (under v (p (s + 1)))
many_two v s p = many_add v s 1 1 p ∙ omega arith

pub many_next : (v from m k : ℕ) (p : ℕ → ℕ) → k ≡ from + m → many v from (m + 1) p ≡ many v from m p + bit (under v (p k))
many_next v from m k p e = many_add v from m 1 p ∙ rw e (omega arith)

pub many_same : (v from m : ℕ) (p q : ℕ → ℕ) → ((k : ℕ) → from ≤ k → k < from + m → q k ≡ p k) → many v from m q ≡ many v from m p
many_same v from zero p q h = refl
many_same v from (suc m) p q h =
    rw (h from (omega arith) (omega arith))
    (omega (arith, many_same v (suc from) m p q (λ k a b. h k (omega arith) (omega arith))))

-- ---- choices

pub under_min : (v a b : ℕ) → under v (min a b) ≡ (under v a || under v b)
under_min v a b = go (leb a v) (leb b v) refl refl
  where
    go : (p q : Bool) → leb a v ≡ p → leb b v ≡ q → leb (min a b) v ≡ (p || q)
    go true q e f = le-leb (min a b) v (omega (arith, leb-true a v e))
    go false true e f = le-leb (min a b) v (omega (arith, leb-true b v f))
    go false false e f = lt-leb (min a b) v (omega (arith, leb-false a v e, leb-false b v f))

pub under_max : (v a b : ℕ) → under v (max a b) ≡ (under v a && under v b)
under_max v a b = go (leb a v) (leb b v) refl refl
  where
    go : (p q : Bool) → leb a v ≡ p → leb b v ≡ q → leb (max a b) v ≡ (p && q)
    go true true e f = le-leb (max a b) v (omega (arith, leb-true a v e, leb-true b v f))
    go true false e f = lt-leb (max a b) v (omega (arith, leb-false b v f))
    go false q e f = lt-leb (max a b) v (omega (arith, leb-false a v e))
