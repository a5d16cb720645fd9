-- The first k entries are zero.
use Rattle.std.proofs.Common.{◌≤◌, replicate}
use Rattle.lists.specs.Front.{AtFront}
use Rattle.lists.proofs.clear_front.Given as goal

abbrev pub invariant-loop-k : goal.invariant-loop-k
invariant-loop-k g l = (l.k ≤ l.n) × AtFront (replicate l.k g.T.Zero.zero) l.initial.out l.out
