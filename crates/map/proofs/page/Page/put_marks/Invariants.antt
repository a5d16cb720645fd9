-- The marks of the columns passed stand from `at` on.
use Rattle.std.proofs.Common.{get_or}
use Rattle.lists.specs.Inner.{Placed}
use Rattle.lists.specs.Tab.{tab}
use Rattle.map.specs.Map.{mark_at}
use Rattle.map.proofs.page.Page.put_marks.Given as goal

abbrev pub invariant-loop-y : goal.invariant-loop-y
invariant-loop-y l = Placed (tab l.y (λ y. mark_at l.self.board l.self.planes.now l.i (get_or l.columns y 0))) l.at l.initial.out l.out
