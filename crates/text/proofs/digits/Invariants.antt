-- `text::digits` meets its contract. The invariant: the count and the digits of the rest are one more than the number has. The rest falls.
use Prim.Native.Nat.{◌+◌, ◌≤◌}
use mathlib.Core.Path.{◌≡◌}
use lib.ListN.{length}
use Rattle.text.specs.Text.{decimal}
use Rattle.text.proofs.digits.Given as goal

abbrev pub invariant-loop-rest : goal.invariant-loop-rest
invariant-loop-rest l = (l.rest ≤ l.n) × (l.count + length (decimal l.rest) ≡ length (decimal l.n) + 1)

abbrev pub decreases-loop-rest : goal.decreases-loop-rest
decreases-loop-rest l = l.rest
