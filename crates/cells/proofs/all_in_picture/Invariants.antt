-- The cells passed are in the picture.
use Rattle.std.proofs.Common.{ℕ, ◌≡◌, ◌<◌, true}
use Rattle.cells.proofs.Cells.{diagonal}
use Rattle.cells.proofs.all_in_picture.Given as goal

abbrev pub invariant-loop-n : goal.invariant-loop-n
invariant-loop-n l = (m : ℕ) → m < l.n → diagonal l.b l.size m ≡ true
