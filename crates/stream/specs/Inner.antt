-- For the code alone: what a buffer has after reading. No contract of an entry point reaches it.
use Rattle.std.specs.Prelude.{ℕ, ◌≤◌, Option, List, length, take}
use Rattle.std.specs.Io.KnownBytes.{Consumes}

-- its first n bytes are those that the reader had next, and no more were taken from it
pub record ReadInto (before after : Option (List ℕ)) (buf : List ℕ) (n : ℕ) : Type 0 where
  pub within : n ≤ length buf
  pub bytes : Consumes before after (take n buf)
