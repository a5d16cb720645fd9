-- The two values are compared in the first l lists.
use Rattle.std.proofs.Common.{◌+◌, min, max}
use Rattle.lists.specs.Front.{AtFront}
use Rattle.lists.specs.Tab.{tab}
use Rattle.select.specs.Inner.{list_of}
use Rattle.select.proofs.start.Given as goal

abbrev pub invariant-loop-l : goal.invariant-loop-l
invariant-loop-l v = record {
  low : AtFront (tab v.l (λ m. min (list_of v.x m v.s) (list_of v.x m (v.s + 1)))) v.initial.lo v.lo;
  high : AtFront (tab v.l (λ m. max (list_of v.x m v.s) (list_of v.x m (v.s + 1)))) v.initial.hi v.hi;
}
