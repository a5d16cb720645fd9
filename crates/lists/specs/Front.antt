-- What a call writes into a slice that was lent to it: a list at its front. All else is as it was.
use Rattle.std.specs.Prelude.{◌≡◌, List, ◌++◌, length, drop}

-- what was lent, with the list written over its front
abbrev pub over : {A : Type 0} → List A → List A → List A
over list lent = list ++ drop (length list) lent

-- the list stands at the front of what was lent, and the rest is as it was. Of an empty list: nothing is written.
pub record AtFront {A : Type 0} (list before after : List A) : Type 0 where
  pub len : length after ≡ length before
  pub is : after ≡ over list before
