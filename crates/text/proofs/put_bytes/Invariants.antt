-- The first k bytes are written.
use Rattle.std.proofs.Common.{get_or}
use Rattle.lists.specs.Tab.{tab}
use Rattle.lists.specs.Inner.{Placed}
use Rattle.text.proofs.put_bytes.Given as goal

abbrev pub invariant-loop-k : goal.invariant-loop-k
invariant-loop-k l = Placed (tab l.k (λ m. get_or l.bytes m 0)) l.at l.initial.out l.out
