-- The first k rows are added.
use Rattle.std.proofs.Common.{ℕ, ◌≡◌, ◌<◌, get_or}
use Rattle.std.specs.Float.{nan}
use Rattle.board.specs.Inner.{lanes, lane, lane_sum}
use Rattle.board.proofs.values.lane_sums.Given as goal

abbrev pub invariant-loop-k : goal.invariant-loop-k
invariant-loop-k v = (l : ℕ) → l < lanes → get_or v.sums l nan ≡ lane_sum (lane v.values l) v.k
