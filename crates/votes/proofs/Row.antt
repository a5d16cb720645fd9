-- The votes of a line, one n at a time, and how many votes a pair gets at most. Assumes nothing.
use Prim.Native.Nat.{ℕ, zero, suc, ◌+◌, ◌-◌, ◌*◌, ◌/◌, ◌≤◌, ◌<◌}
use mathlib.Core.Path.{◌≡◌, refl}
use mathlib.Core.List.{List, [], ◌∷◌}
use native.Mathlib.Nat.{div-lt_iff_lt-mul}
use native.Mathlib.Numerals.{add-one}
use native.Mathlib.Omega.{arith}
use lib.ListN.{length, get_or}
use Rattle.votes.specs.Votes.{max_pitch, min_pitch, votes_of_line, votes}
use Rattle.votes.specs.Inner.{hit}

pub votes_of_line_more : (l q n end : ℕ) → n < end → (o : ℕ) →
    votes_of_line l q o n (end - n) ≡ hit l (n * q / 4) o + (hit (l + 1) (n * q / 4) o + votes_of_line l q o (n + 1) (end - (n + 1)))
votes_of_line_more l q n end h o = let e : end - n ≡ suc (end - (n + 1)) = omega arith in rw (e, add-one n) (omega arith)

pub turns : (e l y : ℕ) → y ≡ min_pitch e → l ≤ 4095 → l / y + 1 ≤ 512
turns e l y s h = rw add-one ((div-lt_iff_lt-mul {k = y} {x = l} {y = 512} (omega arith)).1 (omega arith))

votes_of_line_few : (l q o from count : ℕ) → votes_of_line l q o from count ≤ 2 * count
votes_of_line_few l q o from zero = omega arith
votes_of_line_few l q o from (suc count) = grind (arith, votes_of_line_few l q o (suc from) count)

pub votes_few : (e : ℕ) (lines : List ℕ) (q : ℕ) → ((k : ℕ) → get_or lines k 0 ≤ 4095) → (o : ℕ) → votes e lines o q ≤ 1024 * length lines
votes_few e [] q h o = omega arith
votes_few e (l ∷ lines) q h o =
    let first = votes_of_line_few l q o (l / max_pitch e) (suc (l / min_pitch e) - l / max_pitch e) in
    omega (arith, votes_few e lines q (λ k. h (suc k)) o, turns e l (min_pitch e) refl (h 0), first)
