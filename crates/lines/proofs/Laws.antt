-- For callers: how many lines and wide gaps there are and how large, and what remains after both drops. Assumes nothing.
use Prim.Native.Nat.{ℕ, ◌+◌, ◌-◌, ◌≤◌, ◌<◌}
use mathlib.Core.Path.{◌≡◌, refl}
use mathlib.Core.Bool.{Bool}
use mathlib.Core.List.{List, [], ◌∷◌}
use native.Mathlib.Omega.{arith}
use borrow.Author.Tests.{ltb-true}
use lib.Dec.{ltb}
use lib.ListN.{length, get_or}
use Rattle.lines.specs.Lines.{largest, keep, gaps, lines_of, wide_gaps, chosen_gap, estimate, drop_first, drop_last}
use Rattle.lines.proofs.Windows.{largest_le}
use Rattle.lines.proofs.Rounding.{cut_below, not_narrow}
use Rattle.lines.proofs.Rising.{Rising, rising_lines, rising_first, rising_last, rising_at, rising_length}
use Rattle.lines.proofs.Members.{Has, has_at, has_entry, has_keep, has_first, has_last, two_of_gap, span}

pub lines_few : (s : List ℕ) → length (lines_of s) ≤ length s
lines_few s = omega (arith, rising_length 0 (length s) (lines_of s) (rising_lines s) (omega arith))

pub lines_low : (s : List ℕ) → largest (lines_of s) ≤ length s
lines_low s = largest_le (lines_of s) (length s) (λ k h. omega (arith, (rising_at 0 (length s) (lines_of s) k (rising_lines s) h).1))

length_keep : (p : ℕ → Bool) (l : List ℕ) → length (keep p l) ≤ length l
length_keep p [] = omega arith
length_keep p (x ∷ l) = grind (arith, length_keep p l)

length_gaps : (l : List ℕ) → length (gaps l) ≤ length l
length_gaps [] = omega arith
length_gaps (x ∷ []) = omega arith
length_gaps (x ∷ y ∷ l) = omega (arith, length_gaps (y ∷ l))

pub gaps_few : (l : List ℕ) → length (wide_gaps l) ≤ length l
gaps_few l = omega (arith, length_keep (λ g. ltb 5 g) (gaps l), length_gaps l)

-- a wide gap of the lines: above 5, and less than there are scores
wide_in : (s : List ℕ) (v : ℕ) → Has v (wide_gaps (lines_of s)) → (6 ≤ v) × (v < length s) × Has v (gaps (lines_of s))
wide_in s v m =
    let k = has_keep (λ g. ltb 5 g) v (gaps (lines_of s)) m in
    let l = lines_of s in
    let two = two_of_gap v l k.1 in
    let last = rising_at 0 (length s) l (length l - 1) (rising_lines s) (omega arith) in
    (ltb-true 5 v k.0, omega (arith, last.1, span v 0 (length s) l (rising_lines s) k.1), k.1)

pub gaps_low : (s : List ℕ) → largest (wide_gaps (lines_of s)) ≤ length s
gaps_low s = let d = wide_gaps (lines_of s) in largest_le d (length s) (λ k h. omega (arith, (wide_in s (get_or d k 0) (has_at d k h)).1))

-- e is the entry that was chosen, and one of the wide gaps
pub estimate_is : (lines : List ℕ) → chosen_gap (wide_gaps lines) ≡ estimate lines
unfolding estimate
estimate_is lines = refl

estimate_has : (lines : List ℕ) → 1 ≤ length (wide_gaps lines) → length (wide_gaps lines) ≤ 4096 → Has (estimate lines) (wide_gaps lines)
estimate_has lines l h = let d = wide_gaps lines in rw (← estimate_is lines) (has_entry d _ (cut_below (length d) l h))

-- e and the lines that remain of n scores
pub record Kept (n e : ℕ) (lines : List ℕ) : Type 0 where
  pub e_least : 6 ≤ e
  pub e_most : e < n
  pub two : 2 ≤ length lines
  pub rising : Rising 0 n lines
  pub spanned : get_or lines 0 0 + e ≤ get_or lines (length lines - 1) 0
  pub last : get_or lines (length lines - 1) 0 < n
  pub first : get_or lines 0 0 + 7 ≤ n

pub kept :
    (s : List ℕ)
    → length s ≤ 4096
    → 1 ≤ length (wide_gaps (lines_of s))
    → let e = estimate (lines_of s) in Kept (length s) e (drop_last e (drop_first e (lines_of s)))
kept s h l =
    let lines = lines_of s in
    let e = estimate lines in
    let n = length s in
    let w = wide_in s e (estimate_has lines l (omega (arith, gaps_few lines, lines_few s))) in
    let wide = not_narrow e w.0 (omega (arith, w.1)) in
    let rest = drop_last e (drop_first e lines) in
    let m = has_last e wide (drop_first e lines) (has_first e wide lines w.2) in
    let r = rising_last e 0 n (drop_first e lines) (rising_first e 0 n lines (rising_lines s)) in
    let two = two_of_gap e rest m in
    let sp = span e 0 n rest r m in
    let end = rising_at 0 n rest (length rest - 1) r (omega arith) in
    record {
      e_least = w.0;
      e_most = w.1;
      two = two;
      rising = r;
      spanned = sp;
      last = end.1;
      first = omega (arith, w.0, sp, end.1);
    }
