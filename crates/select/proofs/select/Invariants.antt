-- In each list the entry asked for is among those from 2 t on (`Left`).
use Rattle.std.proofs.Common.{length}
use Rattle.select.specs.Inner.{list_of, InEach}
use Rattle.select.proofs.Passes.{Left}
use Rattle.select.proofs.select.Given as goal

abbrev pub invariant-loop-t : goal.invariant-loop-t
invariant-loop-t v = InEach (λ l. Left (length v.initial.x) v.t (list_of v.initial.x l) (list_of v.x l))
