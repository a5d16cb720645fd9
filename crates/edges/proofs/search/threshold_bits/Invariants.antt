-- The range holds the bits sought. It gets smaller, wherever the count is made.
use Rattle.std.proofs.Common.{◌-◌}
use Rattle.edges.specs.Inner.{part}
use Rattle.edges.proofs.Threshold.{Encloses}
use Rattle.edges.proofs.search.threshold_bits.Given as goal

abbrev pub invariant-loop-range : goal.invariant-loop-range
invariant-loop-range l = Encloses (part 1 1 l.g.row l.g.column l.g.values.now) l.rank l.range

abbrev pub decreases-loop-range : goal.decreases-loop-range
decreases-loop-range l = l.range.hi - l.range.lo
