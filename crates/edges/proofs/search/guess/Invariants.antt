-- The range lies within the one that was handed in. It gets smaller.
use Rattle.std.proofs.Common.{◌-◌, ◌≤◌}
use Rattle.edges.proofs.search.guess.Given as goal

abbrev pub invariant-loop-range : goal.invariant-loop-range
invariant-loop-range l = (l.fn.from.lo ≤ l.range.lo) × (l.range.hi ≤ l.fn.from.hi)

abbrev pub decreases-loop-range : goal.decreases-loop-range
decreases-loop-range l = l.range.hi - l.range.lo
