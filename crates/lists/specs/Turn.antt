-- Lists one after another.
use Rattle.std.specs.Prelude.{List, [], ◌∷◌, ◌++◌}

abbrev pub in_turn : {A : Type 0} → List (List A) → List A
in_turn [] = []
in_turn (list ∷ lists) = list ++ in_turn lists
