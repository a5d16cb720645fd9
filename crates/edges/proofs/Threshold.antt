-- The threshold by its bits: the clipped bits of the ranked entry, and cutting their range by counting. Assumes nothing.
use Rattle.std.proofs.Common.{◌≡◌, ℕ, ◌+◌, ◌≤◌, ◌<◌, max, min, Bool, true, false, cond, ltb, List, length, sym, refl, ap, ◌∙◌, arith, ltb-true, ltb-false}
use lib.Ieee.{Float, nan, binary32, to_bits, of_bits}
use lib.Ieee.Bits.{of_bits-to_bits}
use Rattle.binary32.proofs.Plain.{Plain, bits_back, above_bits, below_bits}
use Rattle.rank.specs.Rank.{entry, ranked}
use Rattle.rank.specs.Inner.{count_at_most}
use Rattle.rank.proofs.Entry.{at_least, at_most}
use Rattle.rank.proofs.Members.{entry_has}
use Rattle.edges.specs.Edges.{clip}
use Rattle.edges.specs.declared.range.Range.{Range}
use Rattle.edges.proofs.Sample.{AllAre}

-- the bits of the threshold where the entry has the bits b
abbrev pub clipped : ℕ → ℕ
clipped b = max 0x3C23D70A (min 0x3F800000 b)

clip_bits : (x : Float) → Plain x → clip x ≡ of_bits binary32 (clipped (to_bits binary32 x))
unfolding clip
clip_bits x p =
    let b = to_bits binary32 x in
    rw (above_bits 0x3F800000 p (omega arith), below_bits 0x3C23D70A p (omega arith)) (at (ltb 0x3F800000 b) (ltb b 0x3C23D70A) refl refl)
  where
    at : (s t : Bool) → ltb 0x3F800000 (to_bits binary32 x) ≡ s → ltb (to_bits binary32 x) 0x3C23D70A ≡ t
        → cond s (of_bits binary32 0x3F800000) (cond t (of_bits binary32 0x3C23D70A) x) ≡ of_bits binary32 (clipped (to_bits binary32 x))
    at true t e d = ap (of_bits binary32) (omega (arith, ltb-true 0x3F800000 (to_bits binary32 x) e))
    at false true e d = ap (of_bits binary32) (omega (arith, ltb-true (to_bits binary32 x) 0x3C23D70A d))
    at false false e d =
        sym (of_bits-to_bits binary32 x p.held)
        ∙ ap (of_bits binary32) (omega (arith, ltb-false 0x3F800000 (to_bits binary32 x) e, ltb-false (to_bits binary32 x) 0x3C23D70A d))

-- the bits of the clipped entry `rank`
abbrev pub sought : List Float → ℕ → ℕ
sought l rank = to_bits binary32 (clip (ranked l rank))

-- those among plain values, by the bits of the entry
sought_is : (l : List Float) (rank : ℕ) → rank < length l → AllAre Plain l
    → sought l rank ≡ clipped (to_bits binary32 (entry (to_bits binary32) nan l rank))
sought_is l rank h p =
    let b = to_bits binary32 (entry (to_bits binary32) nan l rank) in
    ap (to_bits binary32) (clip_bits _ (entry_has (to_bits binary32) nan Plain l rank h p)) ∙ bits_back (clipped b) (omega arith)

-- they are those of a value
pub sought_value : (l : List Float) (rank : ℕ) → rank < length l → AllAre Plain l → of_bits binary32 (sought l rank) ≡ clip (ranked l rank)
sought_value l rank h p =
    let e = clip_bits _ (entry_has (to_bits binary32) nan Plain l rank h p) in
    ap (of_bits binary32) (sought_is l rank h p) ∙ sym e

-- ---- cutting the range

-- the range lies within the limits and holds the bits sought, if there is such an entry
pub record Encloses (l : List Float) (rank : ℕ) (r : Range) : Type 0 where
  pub floor : 0x3C23D70A ≤ r.lo
  pub ceiling : r.hi ≤ 0x3F800000
  pub low : rank < length l → r.lo ≤ sought l rank
  pub high : rank < length l → sought l rank ≤ r.hi

-- where one is left, it is the bits sought
pub encloses_one : {l : List Float} {rank : ℕ} {r : Range} → AllAre Plain l → Encloses l rank r → r.hi ≤ r.lo → rank < length l
    → of_bits binary32 r.lo ≡ clip (ranked l rank)
encloses_one {l} {rank} {r} p h e j =
    let is : r.lo ≡ sought l rank = omega (arith, h.low j, h.high j) in
    rw is (sought_value l rank j p)

-- all bits that the threshold may have hold those sought
pub encloses_all : (l : List Float) (rank : ℕ) (r : Range) → AllAre Plain l → r.lo ≡ 0x3C23D70A → r.hi ≡ 0x3F800000 → Encloses l rank r
encloses_all l rank r p d e =
    record {
      floor = omega arith;
      ceiling = omega arith;
      low = λ h. omega (arith, sought_is l rank h p);
      high = λ h. omega (arith, sought_is l rank h p);
    }

-- the side that is taken holds the bits still
pub encloses_cut : {l : List Float} {mid rank count : ℕ} {r s : Range} → AllAre Plain l → Encloses l rank r → r.lo ≤ mid → mid < r.hi
    → count ≡ count_at_most (to_bits binary32) mid l → (rank < count → (s.lo ≡ r.lo) × (s.hi ≡ mid))
    → (count ≤ rank → (s.lo ≡ mid + 1) × (s.hi ≡ r.hi))
    → Encloses l rank s
encloses_cut {l} {mid} {rank} {count} {r} {s} p h from to e lower upper = at (ltb rank count) refl
  where
    at : (b : Bool) → ltb rank count ≡ b → Encloses l rank s
    at true q =
        let k = lower (ltb-true rank count q) in
        let found = at_least (to_bits binary32) nan mid l rank in
        record {
          floor = omega (arith, k, h.floor);
          ceiling = omega (arith, k, h.ceiling);
          low = λ j. omega (arith, k, h.low j);
          high = λ j. omega (arith, k, h.floor, sought_is l rank j p, found j (omega (arith, ltb-true rank count q)));
        }
    at false q =
        let k = upper (ltb-false rank count q) in
        let above = at_most (to_bits binary32) nan mid l rank in
        record {
          floor = omega (arith, k, h.floor);
          ceiling = omega (arith, k, h.ceiling);
          low = λ j. omega (arith, k, h.ceiling, sought_is l rank j p, above j (omega (arith, ltb-false rank count q)));
          high = λ j. omega (arith, k, h.high j);
        }
