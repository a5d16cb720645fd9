-- The names, then the numbers: the two lines fit where their text fits. Assumes nothing.
use Rattle.std.proofs.Common.{ℕ, ◌+◌, ◌≤◌, ◌≡◌, ◌∙◌, List, length, arith}
use native.Mathlib.Nat.{zero-add}
use lib.ListN.{length-append}
use Rattle.lists.specs.Front.{AtFront}
use Rattle.lists.proofs.Front.{placed_start}
use Rattle.text.specs.Text.{numbers_line}
use Rattle.text.specs.Inner.{Puts}
use Rattle.text.proofs.Writing.{puts_join}
use Rattle.reply.specs.Values.{names_line, text_of}

module _ (values : List ℕ) {room : ℕ} (fits : length (text_of values) ≤ room) where
  pub whole : 86 + length (numbers_line values) ≤ room
  unfolding text_of
  whole = omega (arith, fits, length-append names_line (numbers_line values))

pub both : (values : List ℕ) {out mid after : List ℕ} {m next : ℕ} → Puts names_line 0 out m mid → Puts (numbers_line values) m mid next after
    → length (text_of values) ≤ length out → (next ≡ length (text_of values)) × AtFront (text_of values) out after
unfolding text_of
both values names numbers fits =
    let joined = puts_join names numbers (omega (arith, whole values fits, names.next_is)) in
    (joined.next_is ∙ zero-add _, placed_start joined.placed)
