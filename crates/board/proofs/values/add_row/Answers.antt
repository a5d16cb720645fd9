use Rattle.std.proofs.Common.{arith}
use Rattle.std.proofs.lemmas.Grind.{common_steps}
use Rattle.std.specs.Float.{nan}
use Rattle.lists.proofs.Tab.{length_tab_from}
use Rattle.lists.proofs.Front.{front_more, front_here, front_beyond}
use Rattle.board.proofs.values.add_row.Goals as goal

pub loop-l-preserved : goal.loop-l-preserved
loop-l-preserved c =
    let l = c.loop-l.l in
    let was = front_beyond nan l c.loop-l.invariant (rw length_tab_from (omega arith)) in
    front_more _ l c.loop-l.invariant (omega arith) (cc)

pub returns : goal.returns
returns c = grind (arith, common_steps, front_here)
