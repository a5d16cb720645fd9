-- For the code alone, which finds an entry by counting. No contract of an entry point reaches these.
use Rattle.std.specs.Prelude.{ℕ, Bool, cond, List, Option, Some, None, leb, ltb, length}
use Rattle.lists.specs.Count.{count}
use Rattle.rank.specs.Rank.{entry}

module _ {A : Type 0} (key : A → ℕ) where
  abbrev pub at_most : ℕ → A → Bool
  at_most v x = leb (key x) v

  -- how many entries have a key of at most v
  abbrev pub count_at_most : ℕ → List A → ℕ
  count_at_most v l = count (at_most v) l

  -- entry j, if the list has one; d is no entry
  abbrev pub entry_at : A → List A → ℕ → Option A
  entry_at d l j = cond (ltb j (length l)) (Some (entry key d l j)) None
