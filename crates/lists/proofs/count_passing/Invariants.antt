-- What was counted is the count of the first entries.
use Rattle.std.proofs.Common.{◌≡◌, ◌≤◌, take}
use Rattle.lists.specs.Count.{count}
use Rattle.lists.proofs.count_passing.Given as goal

abbrev pub invariant-loop-x : goal.invariant-loop-x
invariant-loop-x g l = (l.n ≤ l.x-index) × (l.n ≡ count (g.P.Test.passed l.test) (take l.x-index l.s))
