-- A loop that collects entries at the front of a lent list: those that it has and those still to come make the whole. Assumes nothing.
use Prim.Native.Nat.{ℕ, suc, ◌+◌, ◌-◌, ◌≤◌, ◌<◌}
use mathlib.Core.Path.{◌≡◌, refl, sym, ◌∙◌}
use mathlib.Core.Bool.{Bool, true, false, cond}
use mathlib.Core.List.{List, [], ◌∷◌, ◌++◌, append-nil}
use native.Mathlib.Numerals.{add-one}
use native.Mathlib.Omega.{arith}
use borrow.Author.Tests.{lt-ltb, le-ltb}
use lib.Dec.{ltb}
use lib.ListN.{length, get_or, set, take, drop, length-append}
use lib.Seq.{append_snoc}
use Rattle.lists.specs.Front.{AtFront}
use Rattle.lists.specs.Tab.{tab_from}
use Rattle.lists.proofs.Front.{front_push}
use Rattle.lines.specs.Lines.{keep, wide_gaps}

-- n entries stand at the front of `out`; `rest` is still to come, and makes the whole with them
pub record Collected (whole rest : List ℕ) (n : ℕ) (lent out : List ℕ) : Type 0 where
  pub list : List ℕ
  pub counted : n ≡ length list
  pub front : AtFront list lent out
  pub whole_is : list ++ rest ≡ whole

collected_more : {whole rest : List ℕ} {n v : ℕ} {lent out : List ℕ} → Collected whole (v ∷ rest) n lent out → n < length lent
    → Collected whole rest (n + 1) lent (set out n v)
collected_more {whole} {rest} {n} {v} h l =
    record {
      list = h.list ++ (v ∷ []);
      counted = simp length-append (omega (arith, h.counted));
      front = front_push v n (sym h.counted) h.front l;
      whole_is = append_snoc h.list v rest ∙ h.whole_is;
    }

pub collected_all : {whole : List ℕ} {n : ℕ} {lent out : List ℕ} → Collected whole [] n lent out
    → (n ≡ length whole) × AtFront whole lent out
collected_all h = let e : h.list ≡ _ = rw append-nil at h.whole_is in (rw e at h.counted, rw e at h.front)

-- v in front of the rest, if it is kept
abbrev pub kept_if : Bool → ℕ → List ℕ → List ℕ
kept_if b v next = cond b (v ∷ next) next

pub collected_kept :
    (v : ℕ) {whole rest next : List ℕ} {b : Bool} {n : ℕ} {lent out : List ℕ}
    → Collected whole rest n lent out
    → rest ≡ kept_if b v next
    → b ≡ true
    → n < length lent
    → Collected whole next (n + 1) lent (set out n v)
collected_kept v h e q l = collected_more (rw (e, q) at h) l

pub collected_passed :
    (v : ℕ) {whole rest next : List ℕ} {b : Bool} {n : ℕ} {lent out : List ℕ}
    → Collected whole rest n lent out
    → rest ≡ kept_if b v next
    → b ≡ false
    → Collected whole next n lent out
collected_passed v h e q = rw (e, q) at h

-- the places from i up to n that pass a test
abbrev pub places_from : (ℕ → Bool) → ℕ → ℕ → List ℕ
places_from p i n = keep p (tab_from i (n - i) (λ k. k))

pub places_next : (p : ℕ → Bool) (i n : ℕ) → i < n → places_from p i n ≡ kept_if (p i) i (places_from p (i + 1) n)
places_next p i n h = let e : n - i ≡ suc (n - suc i) = omega arith in rw (e, add-one i)

pub ruleset places = (places_next, collected_kept, collected_passed)

wide_next : (l : List ℕ) → 2 ≤ length l
    → let g = get_or (take 2 l) 1 0 - get_or (take 2 l) 0 0 in wide_gaps l ≡ kept_if (ltb 5 g) g (wide_gaps (drop 1 l))
wide_next [] h = absurd (omega arith)
wide_next (x ∷ []) h = absurd (omega arith)
wide_next (x ∷ y ∷ l) h = refl

-- one pair of neighbours more
module _ (rest next : List ℕ) {whole pair : List ℕ} {size g n : ℕ} {lent out : List ℕ} (h : Collected whole (wide_gaps rest) n lent out) (two : size ≡ 2)
    (some : size ≤ length rest) (front : pair ≡ take size rest) (back : next ≡ drop 1 rest) (gap : g ≡ get_or pair 1 0 - get_or pair 0 0) where
  split : wide_gaps rest ≡ kept_if (ltb 5 g) g (wide_gaps next)
  split = rw (back, gap, front, two) (wide_next rest (omega arith))

  pub gap_kept : 5 < g → n < length lent → Collected whole (wide_gaps next) (n + 1) lent (set out n g)
  gap_kept wide room = collected_kept g h split (lt-ltb 5 g wide) room

  pub gap_passed : g ≤ 5 → Collected whole (wide_gaps next) n lent out
  gap_passed narrow = collected_passed g h split (le-ltb 5 g narrow)

pub ruleset next_gap = (gap_kept, gap_passed)

pub gaps_done : (rest : List ℕ) {whole : List ℕ} {n : ℕ} {lent out : List ℕ} → Collected whole (wide_gaps rest) n lent out → length rest < 2
    → (n ≡ length whole) × AtFront whole lent out
gaps_done [] h few = collected_all h
gaps_done (x ∷ []) h few = collected_all h
gaps_done (x ∷ y ∷ l) h few = absurd (omega arith)
