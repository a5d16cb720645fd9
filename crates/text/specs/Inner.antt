-- For the code alone: a piece of text written from a place on. No contract of an entry point reaches it.
use Rattle.std.specs.Prelude.{ℕ, ◌+◌, ◌≡◌, List, length}
use Rattle.lists.specs.Inner.{Placed}

-- the text stands from `at` on, all else is as before, and `next` is the place behind it
pub record Puts (text : List ℕ) (at : ℕ) (before : List ℕ) (next : ℕ) (after : List ℕ) : Type 0 where
  pub next_is : next ≡ at + length text
  pub placed : Placed text at before after
