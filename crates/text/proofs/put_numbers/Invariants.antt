-- Of the other numbers and the line feed all is written but those from the next number on.
use Rattle.std.proofs.Common.{[], ◌∷◌, ◌++◌, ◌≤◌, length, drop}
use Rattle.text.specs.Text.{following}
use Rattle.text.proofs.Writing.{Partly}
use Rattle.text.proofs.put_numbers.Given as goal

abbrev pub invariant-loop-number : goal.invariant-loop-number
invariant-loop-number l =
    (l.number-index ≤ length l.others)
    × Partly (following l.others ++ (10 ∷ [])) (following (drop l.number-index l.others) ++ (10 ∷ [])) l.initial.next l.initial.out l.next l.out
