-- The first k spaces are written.
use Rattle.lists.specs.Tab.{tab}
use Rattle.lists.specs.Inner.{Placed}
use Rattle.text.proofs.put_spaces.Given as goal

abbrev pub invariant-loop-k : goal.invariant-loop-k
invariant-loop-k l = Placed (tab l.k (λ m. 32)) l.at l.initial.out l.out
