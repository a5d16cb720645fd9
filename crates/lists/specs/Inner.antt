-- For the code alone: a list that is written from a place on. No contract of an entry point reaches it.
use Rattle.std.specs.Prelude.{ℕ, ◌+◌, ◌≡◌, List, ◌++◌, length, take, drop}

-- the list stands from the place `at` on, and all else is as it was
pub record Placed {A : Type 0} (list : List A) (at : ℕ) (before after : List A) : Type 0 where
  pub len : length after ≡ length before
  pub is : after ≡ take at before ++ (list ++ drop (at + length list) before)
