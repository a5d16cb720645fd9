-- How many entries pass a test, for a loop that counts them. Assumes nothing.
use Prim.Native.Nat.{ℕ, suc, ◌+◌, ◌≤◌, ◌<◌}
use mathlib.Core.Path.{◌≡◌, refl}
use mathlib.Core.Bool.{Bool, true, false, cond}
use mathlib.Core.List.{List, [], ◌∷◌, ◌++◌}
use native.Mathlib.Omega.{arith}
use lib.ListN.{length, get_or, take}
use mir.Val.{bool_byte}
use Rattle.std.proofs.lemmas.List.{take_more}
use Rattle.lists.specs.Count.{count}

module _ {A : Type 0} (test : A → Bool) where
  pub count_append : (a b : List A) → count test (a ++ b) ≡ count test a + count test b
  count_append [] b = omega arith
  count_append (x ∷ a) b = omega (arith, count_append a b)

  pub count_le : (l : List A) → count test l ≤ length l
  count_le [] = omega arith
  count_le (x ∷ l) = at (count_le l) (test x)
    where
      at : count test l ≤ length l → (t : Bool) → cond t 1 0 + count test l ≤ suc (length l)
      at ih true = omega arith
      at ih false = omega arith

  -- the first entries with one more
  pub count_more : (l : List A) (k : ℕ) (d : A) → k < length l
      → count test (take (k + 1) l) ≡ count test (take k l) + bool_byte (test (get_or l k d))
  count_more l k d h = rw (take_more l k d h, count_append (take k l) (get_or l k d ∷ [])) (omega (arith, one (test (get_or l k d))))
    where
      one : (t : Bool) → cond t 1 0 + 0 ≡ bool_byte t
      one true = refl
      one false = refl

-- what a test adds
pub byte_at_most : (t : Bool) → bool_byte t ≤ 1
byte_at_most true = omega arith
byte_at_most false = omega arith
