-- `text::put_number` meets its contract. The invariant: once the digits of the rest stand before k, the number is written.
use Prim.Native.Nat.{ℕ, ◌-◌, ◌≤◌}
use mathlib.Core.Path.{◌≡◌}
use mathlib.Core.List.{List}
use lib.ListN.{length}
use Rattle.text.specs.Text.{decimal}
use Rattle.text.specs.Inner.{Puts}
use Rattle.text.proofs.Decimal.{last_digits}
use Rattle.text.proofs.put_number.Given as goal

abbrev pub invariant-loop-k : goal.invariant-loop-k
invariant-loop-k l =
    (l.at ≤ l.k)
    × (length l.out ≡ length l.initial.out)
    × ((after : List ℕ) → Puts (last_digits (l.k - l.at) l.rest) l.at l.out l.k after → Puts (decimal l.n) l.at l.initial.out l.end after)
