-- A list that begins with a line, in std's words.
use Prim.Native.Nat.{ℕ}
use mathlib.Core.Path.{◌≡◌, refl, ap}
use mathlib.Core.Bool.{Bool, ◌&&◌}
use mathlib.Core.List.{List, [], ◌∷◌}
use lib.Dec.{eqb}
use Rattle.std.specs.List.{starts_with}
use Rattle.header.specs.Header.{begins}

pub begins_is : (bytes line : List ℕ) → starts_with eqb bytes line ≡ begins line bytes
begins_is bytes [] = refl
begins_is [] (x ∷ line) = refl
begins_is (b ∷ bytes) (x ∷ line) = ap (λ (t : Bool). eqb x b && t) (begins_is bytes line)
