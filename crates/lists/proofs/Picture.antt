-- A point as a number, and the flipped picture. Assumes nothing.
use Prim.Native.Nat.{ℕ, ◌*◌, ◌≤◌}
use mathlib.Core.Path.{◌≡◌, refl, ap, fun_ext}
use mathlib.Core.Bool.{Bool, true, false}
use mathlib.Core.List.{List}
use native.Mathlib.Nat.{add_comm}
use native.Mathlib.Omega.{arith}
use lib.Dec.{eqb}
use lib.ListN.{get_or}
use Rattle.lists.specs.Picture.{bit, flip, points}

pub bit_le : (b : Bool) → bit b ≤ 1
bit_le true = omega arith
bit_le false = omega arith

pub bit_is : (b : Bool) → eqb (bit b) 1 ≡ b
bit_is true = refl
bit_is false = refl

-- the flipped picture is the one with its steps exchanged
pub flip_points : (down across : ℕ) (e : List ℕ) → flip (points down across e) ≡ points across down e
unfolding points
flip_points down across e = fun_ext (λ i. fun_ext (λ j. ap (λ (k : ℕ). eqb (get_or e k 0) 1) (add_comm (j * down) (i * across))))
