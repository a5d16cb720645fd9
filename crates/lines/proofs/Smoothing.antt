-- Smoothing in place of a copy: the first and last four stay, the others are filled in from the front. Assumes nothing.
use Prim.Native.Nat.{ℕ, zero, suc, ◌+◌, ◌-◌, ◌≤◌, ◌<◌}
use mathlib.Core.Path.{◌≡◌, ◌∙◌}
use mathlib.Core.List.{List}
use native.Mathlib.Nat.{add-zero, le_refl}
use native.Mathlib.Omega.{arith}
use borrow.Author.Tests.{lt-ltb, le-ltb, le-leb}
use lib.ListN.{length, get_or, take}
use lib.Seq.{set-get_or}
use Rattle.lists.specs.Front.{AtFront}
use Rattle.lists.specs.Tab.{tab}
use Rattle.lists.proofs.Tab.{length_tab_from, get_or_tab}
use Rattle.lists.proofs.Front.{front_none, front_more, front_part, front_fits, front_within, front_beyond, front_over}
use Rattle.lines.specs.Lines.{largest, smoothed, smooth}
use Rattle.lines.specs.Inner.{InLimits}
use Rattle.lines.proofs.Windows.{largest_at, largest_le, largest_part}

-- what is right already need not be written
front_already : (m : ℕ) (f : ℕ → ℕ) (k : ℕ) {lent out : List ℕ} → AtFront (tab k f) lent out → k + m ≤ length lent
    → ((i : ℕ) → k ≤ i → i < k + m → get_or lent i 0 ≡ f i) → AtFront (tab (k + m) f) lent out
front_already zero f k h l e = rw (add-zero k) h
front_already (suc m) f k {lent} {out} h l e =
    let q : k + suc m ≡ k + 1 + m = omega arith in
    let here = front_beyond 0 k h (rw (length_tab_from 0 k f) (le_refl k)) ∙ e k (omega arith) (omega arith) in
    let more = front_more f k h (omega arith) here in
    rw q (front_already m f (k + 1) (rw (set-get_or out k 0) at more) (omega arith) (λ i a b. e i (omega arith) (omega arith)))

first_four : (s : List ℕ) (i : ℕ) → i < 4 → get_or s i 0 ≡ smoothed s i
first_four s i h = rw (lt-ltb i 4 h)

last_four : (s : List ℕ) (i : ℕ) → 4 ≤ i → length s ≤ i + 4 → get_or s i 0 ≡ smoothed s i
last_four s i h k = rw (le-ltb i 4 h, le-leb (length s) (i + 4) k)

-- the loop begins with a copy of s, and its first four are right
pub smooth_begun : (s : List ℕ) {lent copy : List ℕ} → AtFront s lent copy → 4 ≤ length s → AtFront (tab 4 (smoothed s)) copy copy
smooth_begun s c h =
    front_already 4 (smoothed s) 0 front_none (omega (arith, front_fits c))
    (λ i a b. front_within 0 i c (omega arith) ∙ first_four s i (omega arith))

-- it ends before the last four, which are right too
pub smooth_ended : (s : List ℕ) {k : ℕ} {lent copy out : List ℕ} → AtFront s lent copy → AtFront (tab k (smoothed s)) copy out
    → 4 ≤ k → k ≤ length s → length s ≤ k + 4 → AtFront (smooth s) lent out
unfolding smooth
smooth_ended s {k} c h a b l =
    let n : k + (length s - k) ≡ length s = omega arith in
    let whole =
    front_already (length s - k) (smoothed s) k h (omega (arith, front_fits c))
    (λ i p q. front_within 0 i c (omega arith) ∙ last_four s i (omega arith) (omega arith)) in
    front_over c (rw n at whole) (rw (length_tab_from 0 (length s) (smoothed s)) (le_refl (length s)))

pub length_smooth : (s : List ℕ) → length (smooth s) ≡ length s
unfolding smooth
length_smooth s = length_tab_from 0 (length s) (smoothed s)

smoothed_le : (s : List ℕ) (i : ℕ) → smoothed s i ≤ largest s
smoothed_le s i = grind (arith, largest_at s i, largest_part 4 (i + 1) s)

pub largest_smooth : (s : List ℕ) → largest (smooth s) ≤ largest s
unfolding smooth
largest_smooth s =
    let n = length_tab_from 0 (length s) (smoothed s) in
    largest_le (tab (length s) (smoothed s)) (largest s) (λ k h. rw (get_or_tab (length s) k (smoothed s) 0 (omega arith)) (smoothed_le s k))

-- the smoothed list as a part of the scratch that it stands in, and within the limits as s is
pub smooth_part : (s : List ℕ) {lent t : List ℕ} → AtFront (smooth s) lent t → take (length s) t ≡ smooth s
smooth_part s h = front_part (length s) (length_smooth s) h

pub smooth_limits : (s : List ℕ) {lent t : List ℕ} → AtFront (smooth s) lent t → InLimits s → InLimits (take (length s) t)
smooth_limits s h limits = rw (smooth_part s h) (grind (arith, length_smooth s, largest_smooth s))

pub ruleset smooth_scores = (smooth_part, smooth_limits, front_part)
