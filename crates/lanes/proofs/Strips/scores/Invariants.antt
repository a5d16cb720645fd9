use Rattle.std.proofs.Common.{◌-◌, get_or}
use Rattle.lists.specs.Tab.{tab}
use Rattle.lists.specs.Front.{AtFront}
use Rattle.lanes.proofs.Strips.scores.Given as goal

abbrev pub invariant-loop-i : goal.invariant-loop-i
invariant-loop-i l = AtFront (tab l.i (λ j. get_or l.self.c j 0 - 5)) l.initial.out l.out
