-- The first l points are there.
use Rattle.std.proofs.Common.{length}
use Rattle.std.specs.Float.{binary32}
use Rattle.std.specs.Float.Ieee.{of_bits}
use Rattle.lists.specs.Front.{AtFront}
use Rattle.lists.specs.Tab.{tab}
use Rattle.select.specs.Inner.{list_of, chosen}
use Rattle.select.proofs.put.Given as goal

abbrev pub invariant-loop-l : goal.invariant-loop-l
invariant-loop-l v = AtFront (tab v.l (λ q. of_bits binary32 (chosen (length v.x) (list_of v.x q)))) v.initial.out v.out
