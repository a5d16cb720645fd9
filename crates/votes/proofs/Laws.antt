-- The winner by itself, for a caller that promises it: it is searched, its votes are those of the lines, and it is
-- ahead of every pair of the range. It starts from no votes, so it is a pair of the range because some pair has a vote.
-- Assumes nothing.
use Prim.Native.Nat.{ℕ, suc, ◌-◌, ◌*◌, ◌/◌, ◌%◌, ◌≤◌, ◌<◌}
use mathlib.Core.Path.{◌≡◌, refl, sym}
use mathlib.Core.Logic.{⊎_elim}
use mathlib.Core.List.{List, [], ◌∷◌}
use native.Mathlib.Nat.{mod-le, mod-add-div', le-div_iff_mul-le, div-mul-le_self, mul-le-mul_left, le_trans}
use native.Mathlib.Nat.{mul-div_cancel, mul_assoc, mul_comm}
use native.Mathlib.Omega.{arith}
use borrow.Author.Tests.{eq-eqb}
use lib.ListN.{length}
use Rattle.votes.specs.Votes.{max_pitch, min_pitch, votes, winner, Searched, Ahead, Wins}
use Rattle.votes.proofs.Best.{pair}
use Rattle.votes.proofs.Winner.{winner_picks}

shift : (n m : ℕ) → n * (4 * m) / 4 ≡ n * m
shift n m = let e : n * (4 * m) ≡ n * m * 4 = rw (mul_comm 4 m, mul_assoc) in rw e (mul-div_cancel (n * m) (omega arith))

-- with n = ⌊l/max⌋ and q = 4·max the first line votes for the offset l mod max
voted : (e l : ℕ) (lines : List ℕ) → min_pitch e ≤ max_pitch e → 0 < votes e (l ∷ lines) (l % max_pitch e) (4 * max_pitch e)
voted e l lines h =
    let n = l / max_pitch e in
    let below = le_trans (mul-le-mul_left n h) (div-mul-le_self l (max_pitch e)) in
    let c : n ≤ l / min_pitch e = (le-div_iff_mul-le {k = min_pitch e} {x = n} {y = l} (omega arith)).1 below in
    let d : suc (l / min_pitch e) - l / max_pitch e ≡ suc (l / min_pitch e - l / max_pitch e) = omega arith in
    rw (d, shift (l / max_pitch e) (max_pitch e), mod-add-div', eq-eqb l l refl) (omega arith)

module _ (e : ℕ) (lines : List ℕ) where
  best : (o q : ℕ) → Searched lines e o q → Ahead (winner e lines) (pair (votes e lines) o q)
  best o q s =
      (winner_picks e lines).over _
      (record {
        counted = refl;
        offsets = record { low = omega arith; high = omega (arith, s.offset_in) };
        quarters = record { low = s.above; high = omega (arith, s.above, s.below) };
      })

-- what the search finds is searched, has the votes of its pair, and is ahead of every other pair of the range
pub winner_wins : (e : ℕ) (lines : List ℕ) → 0 < length lines → 6 ≤ e → e ≤ 205 → Wins lines e (winner e lines)
winner_wins e [] h low high = absurd (omega arith)
winner_wins e (l ∷ lines) h low high =
    let there : Searched (l ∷ lines) e (l % max_pitch e) (4 * max_pitch e) =
    record { offset_in = omega (arith, mod-le l (max_pitch e)); above = omega arith; below = omega arith } in
    let some = best e (l ∷ lines) (l % max_pitch e) (4 * max_pitch e) there in
    ⊎_elim
    (λ n. let none : (winner e (l ∷ lines)).votes ≡ 0 = rw n in absurd (omega (arith, some.votes, voted e l lines (omega arith))))
    (λ b. record {
      in_range = record { offset_in = omega (arith, b.offsets); above = b.quarters.low; below = omega (arith, b.quarters) };
      counted = sym b.counted;
      best = best e (l ∷ lines);
    })
    (winner_picks e (l ∷ lines)).is
