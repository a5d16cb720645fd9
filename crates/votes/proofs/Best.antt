-- The order of choices, and the best of a block of the range: blocks are searched one after another in any order, and the best of all is one. Assumes nothing.
use Prim.Native.Nat.{ℕ, ◌+◌, ◌≤◌, ◌<◌}
use mathlib.Core.Path.{◌≡◌}
use native.Mathlib.Omega.{arith}
use Rattle.votes.specs.declared.Choice.{Choice}
use Rattle.votes.specs.Votes.{Ahead}
use Rattle.votes.specs.Inner.{Block, Picks}

-- the order
pub ahead_self : (a : Choice) → Ahead a a
ahead_self a = grind arith

pub ahead_more : {a b : Choice} → b.votes < a.votes → Ahead a b
ahead_more h = grind arith

pub ahead_tie : {a b : Choice} → b.votes ≤ a.votes → a.offset ≤ b.offset → (b.offset ≡ a.offset → a.quarter ≤ b.quarter) → Ahead a b
ahead_tie v o q = grind arith

pub ahead_on : (a b c : Choice) → Ahead a b → Ahead b c → Ahead a c
ahead_on a b c g h = grind arith

-- two choices that are each ahead of the other are one
pub ahead_both : (a b : Choice) → Ahead a b → Ahead b a → a ≡ b
ahead_both a b g h = grind arith

-- the choice of one offset and one q
abbrev pub pair : (ℕ → ℕ → ℕ) → ℕ → ℕ → Choice
pair f o q = record { votes = f o q; offset = o; quarter = q }

module _ {S : Choice → Type 0} {a : Choice} where
  pub picks_none : ((c : Choice) → S c → ⊥) → Picks S a a
  picks_none none = grind arith

  -- a set has one best
  pub picks_one : {r c : Choice} → Picks S a r → Picks S a c → r ≡ c
  picks_one {r} {c} p t = grind (arith, ahead_both r c)

pub one_picked : (f : ℕ → ℕ → ℕ) (o q : ℕ) {a r : Choice} → Picks (λ c. c ≡ pair f o q) a r → Picks (Block f o 1 q 1) a r
one_picked f o q p = grind arith

-- a block and the one beside it: more values of q, or more offsets
module _ {f : ℕ → ℕ → ℕ} {a b r : Choice} where
  pub quarters_on : {o n q m p k w : ℕ} → p ≡ q + m → w ≡ m + k → Picks (Block f o n q m) a b → Picks (Block f o n p k) b r
      → Picks (Block f o n q w) a r
  quarters_on e g s t = grind arith

  pub offsets_on : {o n q m p k w : ℕ} → p ≡ o + n → w ≡ n + k → Picks (Block f o n q m) a b → Picks (Block f p k q m) b r
      → Picks (Block f o w q m) a r
  offsets_on e g s t = grind arith
