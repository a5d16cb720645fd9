-- `least_cost` is the least cost of a walk: no walk to a lane costs less, and one costs just that. So a place's score is the best
-- score of a walk that ends at it (01, "Path scores"). Assumes nothing.
use Prim.Native.Nat.{ℕ, zero, suc, ◌+◌, ◌-◌, ◌≤◌, ◌<◌, min}
use mathlib.Core.Path.{◌≡◌, refl, ap, ◌∙◌}
use mathlib.Core.Bool.{Bool, true, false, not, cond}
use mathlib.Core.Logic.{◌⊎◌, inl, inr, ⊎_elim}
use native.Mathlib.Omega.{arith}
use borrow.Author.Tests.{lt-ltb, ltb-true, ltb-false, eqb-true, eqb-false, le-leb, lt-leb, leb-true, leb-false}
use lib.Dec.{ltb, leb, eqb}
use Rattle.lists.specs.Picture.{bit}
use Rattle.lists.proofs.Picture.{bit_le}
use Rattle.lanes.specs.Walk.{apart, Walk, ends, cost_of, cost, ScoresAtMost, Scores}
use Rattle.lanes.specs.Score.{Place, onward, least_cost, on_strip, score}

-- lanes that differ by at most 1
beside : (p j : ℕ) → apart p j ≤ 1 → (p ≡ j) ⊎ ((suc p ≡ j) ⊎ (p ≡ suc j))
beside p j h = go (eqb p j) refl (ltb p j) refl
  where
    go : (s : Bool) → eqb p j ≡ s → (r : Bool) → ltb p j ≡ r → (p ≡ j) ⊎ ((suc p ≡ j) ⊎ (p ≡ suc j))
    go true e r f = inl (eqb-true p j e)
    go false e true f = let l = ltb-true p j f in inr (inl (omega arith))
    go false e false f = let l = ltb-false p j f in let n = eqb-false p j e in inr (inr (omega arith))

module _ (paid : ℕ → ℕ) where
  pub stay : (j : ℕ) → onward paid j ≤ paid j
  stay zero = omega arith
  stay (suc j) = omega arith

  rise : (p : ℕ) → onward paid (suc p) ≤ paid p + 1
  rise p = omega arith

  fall : (j : ℕ) → suc j ≤ 4 → onward paid j ≤ paid (suc j) + 1
  fall zero h = omega arith
  fall (suc j) h = rw (lt-ltb (suc j) 4 h) (omega arith)

  -- from whichever lane a lane is reached, `onward` is no more
  onward_most : (p j : ℕ) → p ≤ 4 → apart p j ≤ 1 → onward paid j ≤ paid p + apart p j
  onward_most p j l h =
      ⊎_elim
      (λ e. rw e (omega (arith, stay j)))
      (λ o. ⊎_elim (λ e. rw (← e) (omega (arith, rise p))) (λ e. rw e (omega (arith, fall j (rw e at l)))) o)
      (beside p j h)

-- a lane beside j from which j is reached at the least cost
abbrev From : (ℕ → ℕ) → ℕ → ℕ → Type 0
From paid c j = (p : ℕ) × (p ≤ 4) × (apart p j ≤ 1) × (c ≡ paid p + apart p j)

min_is : (a b : ℕ) → (min a b ≡ a) ⊎ (min a b ≡ b)
min_is a b = go (ltb a b) refl
  where
    go : (s : Bool) → ltb a b ≡ s → (min a b ≡ a) ⊎ (min a b ≡ b)
    go true e = let l = ltb-true a b e in inl (omega arith)
    go false e = let l = ltb-false a b e in inr (omega arith)

module _ (paid : ℕ → ℕ) where
  -- the lane itself or the one below
  low : (j : ℕ) → suc j ≤ 4 → From paid (min (paid (suc j)) (paid j + 1)) (suc j)
  low j h =
      ⊎_elim
      (λ e. (suc j, h, omega arith, omega arith))
      (λ e. (j, omega arith, omega arith, omega arith))
      (min_is (paid (suc j)) (paid j + 1))

  from_lane : (j : ℕ) → j ≤ 4 → From paid (onward paid j) j
  from_lane zero h =
      ⊎_elim
      (λ e. (0, omega arith, omega arith, omega arith))
      (λ e. (1, omega arith, omega arith, omega arith))
      (min_is (paid 0) (paid 1 + 1))
  from_lane (suc j) h = go (ltb (suc j) 4) refl
    where
      of : (c x : ℕ) → From paid c (suc j) → From paid x (suc j) → From paid (min c x) (suc j)
      of c x a b = ⊎_elim (λ e. rw e a) (λ e. rw e b) (min_is c x)

      go : (s : Bool) → ltb (suc j) 4 ≡ s → From paid (onward paid (suc j)) (suc j)
      go true e =
          let l = ltb-true (suc j) 4 e in
          rw e (of _ _ (low j h) (suc (suc j), omega arith, omega arith, omega arith))
      go false e = rw e (of _ _ (low j h) (suc j, h, omega arith, omega arith))

-- on five lanes, `onward` looks at five
onward_same : (p q : ℕ → ℕ) → ((i : ℕ) → i ≤ 4 → p i ≡ q i) → (j : ℕ) → j ≤ 4 → onward p j ≡ onward q j
onward_same p q h zero l = rw (h 0 (omega arith), h 1 (omega arith))
onward_same p q h (suc j) l =
    rw (h (suc j) l, h j (omega arith))
    (ap (λ (r : ℕ). min (min (q (suc j)) (q j + 1)) r) (go (ltb (suc j) 4) refl))
  where
    go : (s : Bool) → ltb (suc j) 4 ≡ s →
        cond (ltb (suc j) 4) (p (suc (suc j)) + 1) (q (suc j)) ≡ cond (ltb (suc j) 4) (q (suc (suc j)) + 1) (q (suc j))
    go true e = rw (e, h (suc (suc j)) (ltb-true (suc j) 4 e))
    go false e = rw e

-- two strips with the same points from row 1 to row n
pub least_cost_same : (set other : ℕ → ℕ → Bool) (k n : ℕ) → ((t j : ℕ) → t ≤ n → j ≤ 4 → set t j ≡ other t j) →
    (j : ℕ) → j ≤ 4 → least_cost set k n j ≡ least_cost other k n j
least_cost_same set other k zero h j l = refl
least_cost_same set other k (suc n) h j l =
    onward_same
    (λ i. least_cost set k n i + bit (not (set (suc n) i)))
    (λ i. least_cost other k n i + bit (not (other (suc n) i)))
    (λ i m. rw (least_cost_same set other k n (λ t f a b. h t f (omega arith) b) i m, h (suc n) i (omega arith) m)) j l

-- a walk, and one step more to lane j
module _ {n : ℕ} (w : Walk n) (j : ℕ) where
  longer : ℕ → ℕ
  longer t = cond (leb t n) (w.lane t) j

  longer_old : (t : ℕ) → t ≤ n → longer t ≡ w.lane t
  unfolding longer
  longer_old t h = rw (le-leb t n h)

  longer_new : longer (suc n) ≡ j
  unfolding longer
  longer_new = rw (lt-leb (suc n) n (omega arith))

  longer_on : j ≤ 4 → (t : ℕ) → longer t ≤ 4
  unfolding longer
  longer_on l t = go (leb t n) refl
    where
      go : (s : Bool) → leb t n ≡ s → cond (leb t n) (w.lane t) j ≤ 4
      go true e = rw e (w.is_on_strip t (leb-true t n e))
      go false e = rw e l

  longer_near : apart (ends w) j ≤ 1 → (t : ℕ) → t < suc n → apart (longer t) (longer (suc t)) ≤ 1
  longer_near h t q = rw (longer_old t (omega arith)) (go (leb (suc t) n) refl)
    where
      go : (s : Bool) → leb (suc t) n ≡ s → apart (w.lane t) (longer (suc t)) ≤ 1
      go true e = let l = leb-true (suc t) n e in rw (longer_old (suc t) l) (w.near t l)
      go false e = let l = leb-false (suc t) n e in let i : t ≡ n = omega arith in rw (i, longer_new) h

  abbrev walk_on : j ≤ 4 → apart (ends w) j ≤ 1 → Walk (suc n)
  walk_on l h = record { lane = longer; is_on_strip = λ t q. longer_on l t; near = longer_near h }

module _ (set : ℕ → ℕ → Bool) (k : ℕ) where
  least_cost_most : (n : ℕ) (lane : ℕ → ℕ) →
      ((t : ℕ) → t ≤ n → lane t ≤ 4) → ((t : ℕ) → t < n → apart (lane t) (lane (suc t)) ≤ 1) →
      least_cost set k n (lane n) ≤ cost_of set k lane n
  least_cost_most zero lane on near = omega arith
  least_cost_most (suc n) lane on near =
      let paid : ℕ → ℕ = λ i. least_cost set k n i + bit (not (set (suc n) i)) in
      let so = least_cost_most n lane (λ t h. on t (omega arith)) (λ t h. near t (omega arith)) in
      omega (arith, so, onward_most paid (lane n) (lane (suc n)) (on n (omega arith)) (near n (omega arith)))

  -- a walk may stay in its lane
  pub least_cost_stays : (n j : ℕ) → least_cost set k n j ≤ n + apart j k
  least_cost_stays zero j = omega arith
  least_cost_stays (suc n) j =
      let paid : ℕ → ℕ = λ i. least_cost set k n i + bit (not (set (suc n) i)) in
      omega (arith, stay paid j, least_cost_stays n j, bit_le (not (set (suc n) j)))

  cost_of_same : (n : ℕ) (f g : ℕ → ℕ) → ((t : ℕ) → t ≤ n → f t ≡ g t) → cost_of set k f n ≡ cost_of set k g n
  cost_of_same zero f g h = rw (h 0 (omega arith))
  cost_of_same (suc n) f g h =
      rw (cost_of_same n f g (λ t l. h t (omega arith)), h n (omega arith), h (suc n) (omega arith))

  -- a walk of least cost to lane p is one to lane j, where j is reached from p at the least cost
  attained_on : {n : ℕ} (u : Walk n) (p j : ℕ) → ends u ≡ p → cost set k u ≡ least_cost set k n p → j ≤ 4 → apart p j ≤ 1 →
      least_cost set k (suc n) j ≡ least_cost set k n p + bit (not (set (suc n) p)) + apart p j →
      (w : Walk (suc n)) × (ends w ≡ j) × (cost set k w ≡ least_cost set k (suc n) j)
  attained_on {n} u p j e c h near next =
      let old : cost_of set k (longer u j) n ≡ least_cost set k n p = cost_of_same n (longer u j) u.lane (longer_old u j) ∙ c in
      let at : longer u j n ≡ p = longer_old u j n (omega arith) ∙ e in
      (walk_on u j h (rw e near), longer_new u j, rw (old, at, longer_new u j) (omega (arith, next)))

  least_cost_attained : (n j : ℕ) → j ≤ 4 → (w : Walk n) × (ends w ≡ j) × (cost set k w ≡ least_cost set k n j)
  least_cost_attained zero j h = (record { lane = λ t. j; is_on_strip = λ t q. h; near = λ t q. omega arith }, refl, refl)
  least_cost_attained (suc n) j h =
      let f = from_lane (λ i. least_cost set k n i + bit (not (set (suc n) i))) j h in
      let w = least_cost_attained n f.0 f.1 in
      attained_on w.0 f.0 j w.1 w.2 h f.2 f.3

-- a place's score is the best of the walks that end at it: none scores more
pub no_better : (E : ℕ → ℕ → Bool) (from to : ℕ) (p : Place) (w : Walk (to - from)) → ends w ≡ p.lane →
    ScoresAtMost (on_strip E from p) p.lane w (score E from to p)
unfolding score
no_better E from to p w e =
    let l = least_cost_most (on_strip E from p) p.lane (to - from) w.lane w.is_on_strip w.near in
    let q = rw e at l in
    omega (arith, q)

-- and one scores just as much
pub attained : (E : ℕ → ℕ → Bool) (from to : ℕ) (p : Place) → p.lane ≤ 4 →
    (w : Walk (to - from)) × (ends w ≡ p.lane) × Scores (on_strip E from p) p.lane w (score E from to p)
unfolding score
attained E from to p h =
    let w = least_cost_attained (on_strip E from p) p.lane (to - from) p.lane h in
    let l = least_cost_stays (on_strip E from p) p.lane (to - from) p.lane in
    (w.0, w.1, omega (arith, w.2, l))
