-- The two lines of fourteen values fit into `text_room` bytes. Assumes nothing.
use Prim.Native.Nat.{ℕ, ◌≤◌}
use mathlib.Core.Path.{◌≡◌}
use mathlib.Core.List.{List}
use native.Mathlib.Omega.{arith}
use lib.ListN.{length, length-append}
use Rattle.text.specs.Text.{numbers_line}
use Rattle.text.proofs.Decimal.{line_most}
use Rattle.reply.specs.Values.{names_line, text_of, text_room}

pub lines_fit : (values : List ℕ) → length values ≡ 14 → length (text_of values) ≤ text_room
unfolding text_of
lines_fit values n = omega (arith, length-append names_line (numbers_line values), line_most values (omega arith))
