-- The bytes before k stand at the front.
use Rattle.lists.specs.Front.{AtFront}
use Rattle.edges.specs.Edges.{marks}
use Rattle.edges.proofs.mark.Given as goal

abbrev pub invariant-loop-k : goal.invariant-loop-k
invariant-loop-k l = AtFront (marks l.th l.k l.g) l.initial.out l.out
