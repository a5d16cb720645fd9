-- The first i places are there.
use Rattle.std.proofs.Common.{◌≡◌, ℕ, ◌≤◌, ◌<◌, get_or, length}
use Rattle.board.specs.Board.{most_size}
use Rattle.sample.specs.Sample.{sampled_at}
use Rattle.sample.proofs.axis.Axis.places.Given as goal

abbrev pub invariant-loop-i : goal.invariant-loop-i
invariant-loop-i l =
    let a = l.self in
    (l.i ≤ a.size) × (length l.at ≡ most_size) × ((k : ℕ) → k < l.i → get_or l.at k 0 ≡ sampled_at a.corner a.offset a.pitch a.number a.size k)
