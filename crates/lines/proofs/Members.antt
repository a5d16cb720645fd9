-- The entries of a list: a sorted list has no others, nor has one that keeps some. A gap equal to e outlives both drops. Assumes nothing.
use Prim.Native.Nat.{ℕ, zero, suc, ◌+◌, ◌-◌, ◌≤◌, ◌<◌}
use mathlib.Core.Path.{◌≡◌, refl}
use mathlib.Core.Bool.{Bool, true, false}
use mathlib.Core.List.{List, [], ◌∷◌}
use mathlib.Core.Logic.{◌⊎◌, inl, inr, ⊎_elim}
use native.Mathlib.Omega.{arith}
use lib.ListN.{length, get_or}
use Rattle.rank.specs.Rank.{self, entry}
use Rattle.rank.proofs.Members.{entry_has}
use Rattle.lines.specs.Lines.{keep, gaps, narrow_gap, drop_first, drop_last}
use Rattle.lines.proofs.Rising.{Rising, rising_at}

abbrev pub Has : ℕ → List ℕ → Type 0
Has v [] = ⊥
Has v (x ∷ l) = (x ≡ v) ⊎ Has v l

pub has_at : (l : List ℕ) (k : ℕ) → k < length l → Has (get_or l k 0) l
has_at [] k h = absurd (omega arith)
has_at (x ∷ l) zero h = inl refl
has_at (x ∷ l) (suc k) h = inr (has_at l k (omega arith))

pub has_entry : (l : List ℕ) (j : ℕ) → j < length l → Has (entry self 0 l j) l
has_entry l j h = entry_has self 0 (λ v. Has v l) l j h (has_at l)

pub has_keep : (p : ℕ → Bool) (v : ℕ) (l : List ℕ) → Has v (keep p l) → (p v ≡ true) × Has v l
has_keep p v [] m = absurd m
has_keep p v (x ∷ l) m = grind (arith, has_keep p v l)

-- ---- a gap that is not narrow stays

module _ (e : ℕ) (wide : narrow_gap e e ≡ false) where
  pub has_first : (l : List ℕ) → Has e (gaps l) → Has e (gaps (drop_first e l))
  has_first [] m = m
  has_first (x ∷ []) m = m
  has_first (x ∷ y ∷ l) m = grind arith

  -- the last drop keeps the first line
  gaps_front : (x y : ℕ) (l : List ℕ) → gaps (x ∷ drop_last e (y ∷ l)) ≡ (y - x) ∷ gaps (drop_last e (y ∷ l))
  gaps_front x y [] = refl
  gaps_front x y (z ∷ []) = grind arith
  gaps_front x y (z ∷ w ∷ l) = refl

  pub has_last : (l : List ℕ) → Has e (gaps l) → Has e (gaps (drop_last e l))
  has_last [] m = m
  has_last (x ∷ []) m = m
  has_last (x ∷ y ∷ []) m = grind arith
  has_last (x ∷ y ∷ z ∷ l) m = rw (gaps_front x y (z ∷ l)) (⊎_elim (λ g. inl g) (λ r. inr (has_last (y ∷ z ∷ l) r)) m)

-- ---- what a gap tells of a list

pub two_of_gap : (v : ℕ) (l : List ℕ) → Has v (gaps l) → 2 ≤ length l
two_of_gap v [] m = absurd m
two_of_gap v (x ∷ []) m = absurd m
two_of_gap v (x ∷ y ∷ l) m = omega arith

-- the last line lies at least a gap behind the first
gap_span : (v low high x : ℕ) (l : List ℕ) → Rising low high (x ∷ l) → Has v (gaps (x ∷ l)) → x + v ≤ get_or (x ∷ l) (length l) 0
gap_span v low high x [] w m = absurd m
gap_span v low high x (y ∷ l) w (inl g) =
    omega (arith, w.2.0, rising_at y high (y ∷ l) (length l) (omega arith, w.2.1, w.2.2) (omega arith))
gap_span v low high x (y ∷ l) w (inr m) = omega (arith, w.2.0, gap_span v (suc x) high y l w.2 m)

pub span : (v low high : ℕ) (l : List ℕ) → Rising low high l → Has v (gaps l) → get_or l 0 0 + v ≤ get_or l (length l - 1) 0
span v low high [] w m = absurd m
span v low high (x ∷ l) w m = let e : suc (length l) - 1 ≡ length l = omega arith in rw e (gap_span v low high x l w m)
