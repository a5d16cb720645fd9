-- What the scan's steps find, and that each move lowers the distance. Assumes nothing.
use Prim.Native.Nat.{ℕ, zero, suc, ◌+◌, ◌-◌, ◌<◌, ◌≤◌}
use mathlib.Core.Path.{◌≡◌, refl, ◌∙◌}
use mathlib.Core.List.{List, ◌∷◌}
use mathlib.Core.Bool.{Bool, true, false, cond}
use native.Mathlib.Numerals.{add-one}
use native.Mathlib.Omega.{arith}
use borrow.Author.Tests.{leb-false, lt-leb, ltb-true, ne_eqb}
use lib.Dec.{eqb, leb, ltb}
use Rattle.std.proofs.Common.{Option, Some, None}
use Rattle.std.proofs.lemmas.Bool.Decides.{nat_tests}
use Rattle.std.specs.List.{slice_get, filter, range_with_len}
use Rattle.bounds.specs.declared.Spot.{Spot}
use Rattle.bounds.specs.Inner.{below}
use Rattle.bounds.specs.Scan.{seen_at, fifth, jump, skips, move, followed, scanned}

-- places left, of hi
pub left_more : {hi p : ℕ} → p < hi → hi - p ≡ suc (hi - (p + 1))
left_more h = omega arith

-- points seen one place further on
module _ (set : ℕ → Bool) where
  pub seen_more : (k p hi : ℕ) → p < hi →
      seen_at set k p (hi - p) ≡ cond (set p) (cond (eqb k 0) p (seen_at set (k - 1) (p + 1) (hi - (p + 1))))
      (seen_at set k (p + 1) (hi - (p + 1)))
  seen_more zero p hi h = rw (left_more h, add-one p)
  seen_more (suc k) p hi h = let e : suc k - 1 ≡ k = omega arith in rw (left_more h, add-one p, e, ne_eqb (suc k) 0 (λ q. omega arith))

-- of the set points among n places, the one behind k others is the place that `seen_at` finds
pub nth_seen : (set : ℕ → Bool) (k from n : ℕ) → slice_get (filter set (range_with_len from n)) k ≡ below (from + n) (seen_at set k from n)
nth_seen set k from zero = grind (arith, nat_tests)
nth_seen set zero from (suc n) = on (set from) (nth_seen set zero (from + 1) n)
  where
    on : (t : Bool) → slice_get (filter set (range_with_len (from + 1) n)) 0 ≡ below (from + 1 + n) (seen_at set 0 (from + 1) n)
        → slice_get (cond t (from ∷ filter set (range_with_len (from + 1) n)) (filter set (range_with_len (from + 1) n))) 0
        ≡ below (from + suc n) (cond t from (seen_at set 0 (suc from) n))
    on true ih = grind (arith, nat_tests)
    on false ih = let e : from + suc n ≡ from + 1 + n = omega arith in rw (e, ← add-one from) ih
nth_seen set (suc k) from (suc n) = on (set from) (nth_seen set k (from + 1) n) (nth_seen set (suc k) (from + 1) n)
  where
    rest : List ℕ
    rest = filter set (range_with_len (from + 1) n)

    on : (t : Bool) → slice_get rest k ≡ below (from + 1 + n) (seen_at set k (from + 1) n)
        → slice_get rest (suc k) ≡ below (from + 1 + n) (seen_at set (suc k) (from + 1) n)
        → slice_get (cond t (from ∷ rest) rest) (suc k)
        ≡ below (from + suc n) (cond t (seen_at set k (suc from) n) (seen_at set (suc k) (suc from) n))
    on true ih jh = let e : from + suc n ≡ from + 1 + n = omega arith in rw (e, ← add-one from) ih
    on false ih jh = let e : from + suc n ≡ from + 1 + n = omega arith in rw (e, ← add-one from) jh

abbrev spot : ℕ → ℕ → Spot
spot m p = record { distance = m; across = p }

-- a move goes to a smaller distance, and to a place across below `across`
abbrev pub Falls : ℕ → ℕ → Option Spot → Type 0
Falls across m None = Unit
Falls across m (Some s) = (s.distance < m) × (s.across < across)

module _ (at : ℕ → ℕ → Bool) (lo hi : ℕ) where
  pub skips_more : (m skip : ℕ) → skip < 4 →
      skips at lo hi m skip (4 - skip) ≡ cond (leb m skip) None (jump at lo hi (m - skip) (skips at lo hi m (skip + 1) (4 - (skip + 1))))
  skips_more m skip h = rw (left_more h, add-one skip)

  pub skips_next : (m skip : ℕ) → skip < 4 → skip < m → below hi (fifth at lo hi (m - skip)) ≡ None
      → skips at lo hi m skip (4 - skip) ≡ skips at lo hi m (skip + 1) (4 - (skip + 1))
  skips_next m skip h k none = skips_more m skip h ∙ rw (lt-leb m skip k) (on (ltb (fifth at lo hi (m - skip)) hi) none)
    where
      rest : Option Spot
      rest = skips at lo hi m (skip + 1) (4 - (skip + 1))

      on : (t : Bool) → cond t (Some (fifth at lo hi (m - skip))) None ≡ None → cond t (Some (spot (m - skip) (fifth at lo hi (m - skip)))) rest ≡ rest
      on true e = cc
      on false e = refl

  jump_falls : {across m : ℕ} → hi ≤ across → (m' : ℕ) (other : Option Spot) → m' < m → Falls across m other
      → Falls across m (jump at lo hi m' other)
  jump_falls {across} {m} w m' other l f = on (ltb (fifth at lo hi m') hi) refl
    where
      on : (t : Bool) → ltb (fifth at lo hi m') hi ≡ t → Falls across m (cond t (Some (spot m' (fifth at lo hi m'))) other)
      on true e = (l, omega (arith, ltb-true (fifth at lo hi m') hi e))
      on false e = f

  skips_fall : {across : ℕ} → hi ≤ across → (m skip tries : ℕ) → 0 < skip → Falls across m (skips at lo hi m skip tries)
  skips_fall {across} w m skip zero h = tt
  skips_fall {across} w m skip (suc tries) h = on (skips_fall w m (suc skip) tries (omega arith)) (leb m skip) refl
    where
      rest : Option Spot
      rest = skips at lo hi m (suc skip) tries

      on : Falls across m rest → (t : Bool) → leb m skip ≡ t → Falls across m (cond t None (jump at lo hi (m - skip) rest))
      on f true e = tt
      on f false e = jump_falls w (m - skip) rest (omega (arith, leb-false m skip e)) f

  pub move_falls : {across p : ℕ} → hi ≤ across → p < across → (m : ℕ) → Falls across m (move at lo hi m p)
  move_falls {across} {p} w h zero = tt
  move_falls {across} {p} w h (suc m) = rw (ne_eqb (suc m) 0 (λ q. omega arith)) (on (at p (suc m - 1)))
    where
      on : (t : Bool) → Falls across (suc m) (cond t (Some (spot (suc m - 1) p)) (skips at lo hi (suc m) 1 3))
      on true = (omega arith, h)
      on false = skips_fall w (suc m) 1 3 (omega arith)

  -- the scan from m₀ and p₀ comes to m and p: both stop at the same distance, with moves enough left
  pub record Reached (m₀ p₀ m p : ℕ) : Type 0 where
    pub moves : ℕ
    pub enough : m ≤ moves
    pub same : scanned at lo hi m₀ m₀ p₀ ≡ scanned at lo hi moves m p

  one_move : (moves m p : ℕ) {s : Spot} → m ≤ moves → s.distance < m → move at lo hi m p ≡ Some s →
      (left : ℕ) × (s.distance ≤ left) × (scanned at lo hi moves m p ≡ scanned at lo hi left s.distance s.across)
  one_move zero m p l f q = absurd (omega arith)
  one_move (suc moves) m p l f q = (moves, omega arith, rw q)

  -- a move from there: it comes to a smaller distance, in the picture
  pub record Moved (across m₀ p₀ m : ℕ) (s : Spot) : Type 0 where
    pub falls : s.distance < m
    pub across_in : s.across < across
    pub reached : Reached m₀ p₀ s.distance s.across

  pub reached_more : {across m₀ p₀ m p : ℕ} {s : Spot} → hi ≤ across → p < across → Reached m₀ p₀ m p → move at lo hi m p ≡ Some s
      → Moved across m₀ p₀ m s
  reached_more {across} {m₀} {p₀} {m} {p} w h r q =
      let f = rw q at (move_falls {across = across} w h m) in
      let one = one_move r.moves m p r.enough f.0 q in
      record { falls = f.0; across_in = f.1; reached = record { moves = one.0; enough = one.1; same = r.same ∙ one.2 } }

  pub reached_end : {m₀ p₀ m p : ℕ} → Reached m₀ p₀ m p → move at lo hi m p ≡ None → scanned at lo hi m₀ m₀ p₀ ≡ m
  reached_end {m₀} {p₀} {m} {p} r q = r.same ∙ stays r.moves
    where
      stays : (moves : ℕ) → scanned at lo hi moves m p ≡ m
      stays zero = refl
      stays (suc moves) = rw q

  -- no scan goes back
  pub scan_le : (moves m p : ℕ) → scanned at lo hi moves m p ≤ m
  scan_le zero m p = omega arith
  scan_le (suc moves) m p = on (scan_le moves) (move at lo hi m p) (move_falls {across = suc (hi + p)} (omega arith) (omega arith) m)
    where
      on : ((m' p' : ℕ) → scanned at lo hi moves m' p' ≤ m') → (o : Option Spot) → Falls (suc (hi + p)) m o
          → followed o m (scanned at lo hi moves) ≤ m
      on ih None f = omega arith
      on ih (Some s) f = omega (arith, ih s.distance s.across, f.0)
