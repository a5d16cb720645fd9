-- Entry j of a list sorted rising (01, "Gradient and threshold", "Narrowing" and "Lines and votes"), j counted from 0.
-- One definition serves values of any kind by a key: binary32 values by their bits, scores by themselves.
use Rattle.std.specs.Prelude.{ℕ, cond, List, [], ◌∷◌, leb, Float, get_or}
use Rattle.std.specs.Float.{nan, binary32}
use Rattle.std.specs.Float.Ieee.{to_bits}

-- the key of a whole number is the number
abbrev pub self : ℕ → ℕ
self n = n

module _ {A : Type 0} (key : A → ℕ) where
  -- x in front of the first entry whose key is not below x's
  abbrev pub insert : A → List A → List A
  insert x [] = x ∷ []
  insert x (y ∷ l) = cond (leb (key x) (key y)) (x ∷ y ∷ l) (y ∷ insert x l)

  abbrev pub sort : List A → List A
  sort [] = []
  sort (x ∷ l) = insert x (sort l)

  -- entry j of the sorted list, and d where the list is too short
  unfoldable pub entry : A → List A → ℕ → A
  entry d l j = get_or (sort l) j d

-- entry j of binary32 values sorted rising
abbrev pub ranked : List Float → ℕ → Float
ranked l j = entry (to_bits binary32) nan l j
