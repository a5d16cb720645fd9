-- The first k entries of the part are copied.
use Rattle.std.proofs.Common.{take}
use Rattle.lists.specs.Front.{AtFront}
use Rattle.lists.proofs.copy_front.Given as goal

abbrev pub invariant-loop-k : goal.invariant-loop-k
invariant-loop-k g l = AtFront (take l.k l.x-items) l.initial.to l.to
