-- One pass over a window of a list takes out a smallest and a largest value, as seen by how many are at most v (`Dropped`). Seen at v a
-- value is a test, the smaller of two is `or`, the larger is `and`. Assumes nothing.
use Prim.Native.Nat.{ℕ, min, max, ◌+◌, ◌-◌, ◌≤◌, ◌<◌}
use mathlib.Core.Path.{◌≡◌, refl, ap, ◌∙◌}
use mathlib.Core.Bool.{Bool, true, false, ◌&&◌, ◌||◌}
use native.Mathlib.Omega.{arith}
use Rattle.lists.specs.Picture.{bit}
use Rattle.select.specs.Inner.{many, Dropped, between, highest}
use Rattle.select.proofs.Counts.{under, many_le, many_two, many_next, many_same, under_min, under_max}

-- of `size` values w are at most v: the smallest where a, the largest where b, and c of the others
abbrev Split : ℕ → Bool → Bool → ℕ → ℕ → Type 0
Split size true true c w = (c + 2 ≡ w) × (w ≡ size)
Split size true false c w = c + 1 ≡ w
Split size false true c w = ⊥
Split size false false c w = (c ≡ 0) × (w ≡ 0)

split_two : (a b : Bool) → Split 2 (a || b) (a && b) 0 (bit a + bit b)
split_two true true = (refl, refl)
split_two true false = refl
split_two false true = refl
split_two false false = (refl, refl)

split_more : (size c w : ℕ) (a b y : Bool) → Split size a b c w
    → Split (size + 1) (a || y) (b && (a && y)) (c + bit (b || (a && y))) (w + bit y)
split_more size c w true true true s = (omega (arith, s.0), omega (arith, s.1))
split_more size c w true true false s = omega (arith, s.0)
split_more size c w true false true s = omega (arith, s)
split_more size c w true false false s = omega (arith, s)
split_more size c w false true y s = absurd s
split_more size c w false false true s = omega (arith, s.0, s.1)
split_more size c w false false false s = (omega (arith, s.0), omega (arith, s.1))

split_rest : (d c w : ℕ) (a b : Bool) → Split (d + 2) a b c w → c ≤ d → c ≡ min (w - 1) d
split_rest d c w true true s h = omega (arith, s.0, s.1)
split_rest d c w true false s h = omega (arith, s)
split_rest d c w false true s h = absurd s
split_rest d c w false false s h = omega (arith, s.0, s.1)

-- the list p from s on, after d values beyond the first two: a smallest a, a largest b, and the list q
pub record Sifting (s d : ℕ) (p : ℕ → ℕ) (a b : ℕ) (q : ℕ → ℕ) : Type 0 where
  rest : (k : ℕ) → s + 2 + d ≤ k → q k ≡ p k
  split : (v : ℕ) → Split (d + 2) (under v a) (under v b) (many v (s + 2) d q) (many v s (d + 2) p)

pub sifting_none : {s : ℕ} {p : ℕ → ℕ} {a b : ℕ} → a ≡ min (p s) (p (s + 1)) → b ≡ max (p s) (p (s + 1)) → Sifting s 0 p a b p
sifting_none {s} {p} A B =
    record {
      rest = λ k l. refl;
      split = λ v.
          rw (A, B, under_min v (p s) (p (s + 1)), under_max v (p s) (p (s + 1)), many_two v s p)
          (split_two (under v (p s)) (under v (p (s + 1))));
    }

pub sifting_more : {s d : ℕ} {p q q' : ℕ → ℕ} {a b a' b' : ℕ} (k : ℕ) → k ≡ s + 2 + d → Sifting s d p a b q → a' ≡ min a (q k)
    → b' ≡ highest a b (q k) → q' k ≡ between a b (q k) → ((j : ℕ) → j < k → q' j ≡ q j) → ((j : ℕ) → k < j → q' j ≡ q j)
    → Sifting s (d + 1) p a' b' q'
sifting_more {s} {d} {p} {q} {q'} {a} {b} k e S A B C before behind =
    let same : q k ≡ p k = S.rest k (omega arith) in
    let t = max a (q k) in
    record {
      rest = λ j l. behind j (omega arith) ∙ S.rest j (omega arith);
      split = λ v.
          let c : many v (s + 2) (d + 1) q' ≡ many v (s + 2) d q + bit (under v (q' k)) =
          many_next v (s + 2) d k q' e
          ∙ ap (λ (n : ℕ). n + bit (under v (q' k))) (many_same v (s + 2) d q q' (λ j l g. before j (omega arith))) in
          let z : d + 1 + 2 ≡ d + 2 + 1 = omega arith in
          let w : many v s (d + 2 + 1) p ≡ many v s (d + 2) p + bit (under v (q k)) =
          many_next v s (d + 2) k p (omega arith) ∙ rw same in
          rw (z, c, w, A, B, C, under_min v a (q k), under_max v b t)
          (rw (under_min v b t, under_max v a (q k))
          (split_more (d + 2) (many v (s + 2) d q) (many v s (d + 2) p) (under v a) (under v b) (under v (q k)) (S.split v)));
    }

pub sifting_all : {s d e : ℕ} {p q : ℕ → ℕ} {a b : ℕ} → e ≡ s + 2 + d → Sifting s d p a b q → Dropped s e p q
sifting_all {s} {d} {e} {p} {q} {a} {b} h S =
    let m : e - (s + 2) ≡ d = omega arith in
    let n : e - s ≡ d + 2 = omega arith in
    record {
      beyond = λ k l. S.rest k (omega arith);
      counts = λ v.
          rw (m, n)
          (split_rest d (many v (s + 2) d q) (many v s (d + 2) p) (under v a) (under v b) (S.split v) (many_le v (s + 2) d q));
    }
