-- What was counted is the count of the first values.
use Rattle.std.proofs.Common.{◌≡◌, ◌≤◌, not, take}
use Rattle.lists.specs.Count.{count}
use Rattle.binary32.specs.Binary32.{unit}
use Rattle.board.proofs.values.count_above.Given as goal

abbrev pub invariant-loop-x : goal.invariant-loop-x
invariant-loop-x v = (v.n ≤ v.x-index) × (v.n ≡ count (λ x. not (unit x)) (take v.x-index v.values))
