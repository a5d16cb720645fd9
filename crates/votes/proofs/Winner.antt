-- The search of the definition, offsets first, finds the best of the searched range: a pair is never replaced by a
-- later one with as many votes. So does the search of the code, one q after another, and there is only one best.
-- Assumes nothing.
use Prim.Native.Nat.{ℕ, zero, suc, ◌+◌, ◌-◌, ◌*◌, ◌≤◌, ◌<◌}
use mathlib.Core.Path.{◌≡◌, refl}
use mathlib.Core.Bool.{Bool, cond}
use mathlib.Core.List.{List}
use native.Mathlib.Omega.{arith}
use lib.Dec.{ltb}
use lib.ListN.{length, get_or}
use Rattle.std.proofs.lemmas.Bool.Decides.{nat_tests}
use Rattle.votes.specs.declared.Choice.{Choice}
use Rattle.votes.specs.Votes.{max_pitch, min_pitch, last_offset, votes, better, over_quarters, over_offsets, winner}
use Rattle.votes.specs.Inner.{Added, Block, Picks}
use Rattle.votes.proofs.Best.{pair, one_picked, picks_none, picks_one, quarters_on, offsets_on}

-- what is searched from (o, q) on comes after a
record Before (a : Choice) (o q : ℕ) : Type 0 where
  offset : a.offset ≤ o
  quarter : a.offset ≡ o → a.quarter ≤ q

-- what the search starts from
abbrev pub nothing : Choice
nothing = record { votes = 0; offset = 0; quarter = 0 }

-- a choice of the searched range, with its votes
abbrev pub InRange : ℕ → List ℕ → Choice → Type 0
InRange e lines = Block (votes e lines) 0 (suc (last_offset lines)) (4 * min_pitch e) (suc (4 * max_pitch e) - 4 * min_pitch e)

module _ (e : ℕ) (lines : List ℕ) where
  better_picks : (a : Choice) (o q : ℕ) → Before a o q → Picks (Block (votes e lines) o 1 q 1) a (better a (pair (votes e lines) o q))
  better_picks a o q h = one_picked (votes e lines) o q (picked (ltb a.votes (votes e lines o q)) refl)
    where
      picked : (t : Bool) → ltb a.votes (votes e lines o q) ≡ t
          → Picks (λ c. c ≡ pair (votes e lines) o q) a (cond t (pair (votes e lines) o q) a)
      picked t is = grind (arith, nat_tests)

  -- what was picked among the values of q of one offset comes before the next q, and before the next offset
  before_next : {a r : Choice} {o q m p : ℕ} → p ≡ q + m → Before a o q → Picks (Block (votes e lines) o 1 q m) a r → Before r o p
  before_next n h s = grind arith

  over_quarters_lem : (o q m : ℕ) (a : Choice) → Before a o q → Picks (Block (votes e lines) o 1 q m) a (over_quarters e lines o q m a)
  over_quarters_lem o q zero a h = picks_none (λ c b. omega (arith, b.quarters))
  over_quarters_lem o q (suc m) a h =
      let s = better_picks a o q h in
      let n : suc q ≡ q + 1 = omega arith in
      quarters_on n (omega arith) s (over_quarters_lem o (suc q) m _ (before_next n h s))

  over_offsets_lem : (o n : ℕ) (a : Choice) → Before a o (4 * min_pitch e) →
      Picks (Block (votes e lines) o n (4 * min_pitch e) (suc (4 * max_pitch e) - 4 * min_pitch e)) a (over_offsets e lines o n a)
  over_offsets_lem o zero a h = picks_none (λ c b. omega (arith, b.offsets))
  over_offsets_lem o (suc n) a h =
      let s = over_quarters_lem o (4 * min_pitch e) (suc (4 * max_pitch e) - 4 * min_pitch e) a h in
      let b = before_next refl h s in
      offsets_on (omega arith) (omega arith) s
      (over_offsets_lem (suc o) n _ (record { offset = omega (arith, b.offset); quarter = λ x. absurd (omega (arith, b.offset)) }))

  pub winner_picks : Picks (InRange e lines) nothing (winner e lines)
  unfolding winner
  winner_picks = over_offsets_lem 0 (suc (last_offset lines)) nothing (record { offset = omega arith; quarter = λ x. omega arith })

  -- whoever finds the best of the same range has found it
  pub winner_found : {width from count : ℕ} {r : Choice} → Picks (Block (votes e lines) 0 width from count) nothing r →
      width ≡ suc (last_offset lines) → from ≡ 4 * min_pitch e → count ≡ suc (4 * max_pitch e) - 4 * min_pitch e → r ≡ winner e lines
  winner_found p w f n = picks_one (rw (w, f, n) at p) winner_picks

-- ---- the search of the code: one q after another

-- the best with the values of q before this one, and of a row of `width` entries, in which this one's votes were counted
pub passed_more : {f : ℕ → ℕ → ℕ} {width from q : ℕ} {a b r : Choice} {row out : List ℕ}
    → Picks (Block f 0 width from (q - from)) a b
    → from ≤ q
    → length row ≡ width
    → ((o : ℕ) → o < length row → get_or row o 0 ≡ 0)
    → Added (λ o. f o q) row out
    → Picks (Block (λ o _. get_or out o 0) 0 (length out) q 1) b r
    → Picks (Block f 0 width from (q + 1 - from)) a r
passed_more {f} {width} {from} {q} {row = row} {out} p low long zeros added picked =
    let counted : (o : ℕ) → o < length row → get_or out o 0 ≡ f o q = λ o h. omega (arith, added.at o h, zeros o h) in
    grind arith
