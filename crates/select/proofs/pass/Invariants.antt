-- Each list is sifted from s up to k (`Sifting`).
use Rattle.std.proofs.Common.{◌+◌, ◌-◌, get_or}
use Rattle.select.specs.Inner.{list_of, InEach}
use Rattle.select.proofs.Sifting.{Sifting}
use Rattle.select.proofs.pass.Given as goal

abbrev pub invariant-loop-k : goal.invariant-loop-k
invariant-loop-k v =
    InEach (λ l. Sifting v.s (v.k - (v.s + 2)) (list_of v.initial.x l) (get_or v.lo l 0) (get_or v.hi l 0) (list_of v.x l))
