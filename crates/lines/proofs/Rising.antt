-- The lines rise strictly, and so do those that the drops leave. Assumes nothing.
use Prim.Native.Nat.{ℕ, zero, suc, ◌+◌, ◌≤◌, ◌<◌}
use mathlib.Core.Path.{◌≡◌, refl}
use mathlib.Core.Bool.{Bool}
use mathlib.Core.List.{List, [], ◌∷◌}
use native.Mathlib.Nat.{zero-add}
use native.Mathlib.Omega.{arith}
use lib.Ieee.{Float}
use lib.ListN.{length, get_or}
use Rattle.lists.specs.Tab.{tab_from, tab}
use Rattle.lines.specs.Lines.{line_threshold, smooth, is_line, keep, places_of, lines_of, drop_first, drop_last}
use Rattle.lines.proofs.Smoothing.{length_smooth}

-- strictly rising, from `low` on and below `high`
abbrev pub Rising : ℕ → ℕ → List ℕ → Type 0
Rising low high [] = Unit
Rising low high (x ∷ l) = (low ≤ x) × (x < high) × Rising (suc x) high l

rising_sooner : (low low' high : ℕ) (l : List ℕ) → low ≤ low' → Rising low' high l → Rising low high l
rising_sooner low low' high [] h w = tt
rising_sooner low low' high (x ∷ l) h w = grind arith

rising_places : (from n : ℕ) → Rising from (from + n) (tab_from from n (λ i. i))
rising_places from zero = tt
rising_places from (suc n) =
    let e : from + suc n ≡ suc from + n = omega arith in
    (omega arith, omega arith, rw e (rising_places (suc from) n))

rising_keep : (p : ℕ → Bool) (low high : ℕ) (l : List ℕ) → Rising low high l → Rising low high (keep p l)
rising_keep p low high [] w = tt
rising_keep p low high (x ∷ l) w = grind (arith, rising_keep p (suc x) high l w.2, rising_sooner)

rising_of : (th : Float) (t : List ℕ) → Rising 0 (length t) (places_of th t)
rising_of th t = rising_keep (is_line th t) 0 (length t) (tab (length t) (λ i. i)) (rw zero-add at (rising_places 0 (length t)))

lines_are : (s : List ℕ) → places_of (line_threshold s) (smooth s) ≡ lines_of s
unfolding lines_of
lines_are s = refl

pub rising_lines : (s : List ℕ) → Rising 0 (length s) (lines_of s)
rising_lines s = rw (lines_are s, length_smooth s) at (rising_of (line_threshold s) (smooth s))

pub rising_first : (e low high : ℕ) (l : List ℕ) → Rising low high l → Rising low high (drop_first e l)
rising_first e low high [] w = tt
rising_first e low high (x ∷ []) w = w
rising_first e low high (x ∷ y ∷ l) w = grind (arith, rising_sooner low (suc x) high (y ∷ l))

pub rising_last : (e low high : ℕ) (l : List ℕ) → Rising low high l → Rising low high (drop_last e l)
rising_last e low high [] w = tt
rising_last e low high (x ∷ []) w = w
rising_last e low high (x ∷ y ∷ []) w = grind arith
rising_last e low high (x ∷ y ∷ z ∷ l) w = (w.0, w.1, rising_last e (suc x) high (y ∷ z ∷ l) w.2)

pub rising_at : (low high : ℕ) (l : List ℕ) (k : ℕ) → Rising low high l → k < length l → (low ≤ get_or l k 0) × (get_or l k 0 < high)
rising_at low high [] k w h = absurd (omega arith)
rising_at low high (x ∷ l) zero w h = (w.0, w.1)
rising_at low high (x ∷ l) (suc k) w h = grind (arith, rising_at (suc x) high l k w.2)

pub rising_length : (low high : ℕ) (l : List ℕ) → Rising low high l → low ≤ high → length l + low ≤ high
rising_length low high [] w h = omega arith
rising_length low high (x ∷ l) w h = omega (arith, w.0, rising_length (suc x) high l w.2 w.1)
