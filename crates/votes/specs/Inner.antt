-- For the code alone: a row of votes, and the best of a part of the range. No contract of an entry point reaches these.
use Rattle.std.specs.Prelude.{ℕ, ◌+◌, ◌≤◌, ◌<◌, ◌≡◌, ◌⊎◌, cond, List, eqb, length, get_or}
use Rattle.votes.specs.declared.Choice.{Choice}
use Rattle.votes.specs.Votes.{Ahead}

-- 1 where the formula l − s gives the offset
abbrev pub hit : ℕ → ℕ → ℕ → ℕ
hit l s offset = cond (eqb (offset + s) l) 1 0

-- each entry of a row has v more
pub record Added (v : ℕ → ℕ) (before after : List ℕ) : Type 0 where
  pub len : length after ≡ length before
  pub at : (o : ℕ) → o < length before → get_or after o 0 ≡ get_or before o 0 + v o

-- x is one of `count` numbers from `from` on
pub record OneOf (from count x : ℕ) : Type 0 where
  pub low : from ≤ x
  pub high : x < from + count

-- a choice of n offsets from o on and m values of q from q on, whose votes are f's
pub record Block (f : ℕ → ℕ → ℕ) (o n q m : ℕ) (c : Choice) : Type 0 where
  pub counted : c.votes ≡ f c.offset c.quarter
  pub offsets : OneOf o n c.offset
  pub quarters : OneOf q m c.quarter

-- r is the one of S and `best` that is ahead of the others
pub record Picks (S : Choice → Type 0) (best r : Choice) : Type 0 where
  pub is : (r ≡ best) ⊎ S r
  pub kept : Ahead r best
  pub over : (c : Choice) → S c → Ahead r c
