-- The entry lies between the two ends. Their distance falls.
use Rattle.std.proofs.Common.{◌-◌, ◌≤◌}
use Rattle.rank.specs.Rank.{self}
use Rattle.rank.proofs.Entry.{Between}
use Rattle.rank.proofs.get_entry.Given as goal

abbrev pub invariant-loop-lo : goal.invariant-loop-lo
invariant-loop-lo l = Between self 0 l.s l.j l.lo l.hi × (l.hi ≤ l.most)

abbrev pub decreases-loop-lo : goal.decreases-loop-lo
decreases-loop-lo l = l.hi - l.lo
