use Rattle.std.proofs.Common.{arith}
use Rattle.std.proofs.lemmas.Grind.{common_steps}
use Rattle.lists.proofs.Tab.{length_tab_from}
use Rattle.lists.proofs.Front.{front_more, front_here, front_beyond}
use Rattle.select.proofs.sift.Goals as goal

pub loop-l-preserved : goal.loop-l-preserved
loop-l-preserved c =
    let l = c.loop-l.l in
    let i = c.loop-l.invariant in
    let low = front_beyond 0 l i.low (rw length_tab_from (omega arith)) in
    let high = front_beyond 0 l i.high (rw length_tab_from (omega arith)) in
    let here = front_beyond 0 l i.here (rw length_tab_from (omega arith)) in
    record {
      low = front_more _ l i.low (omega arith) (cc);
      high = front_more _ l i.high (omega arith) (cc);
      here = front_more _ l i.here (omega arith) (cc);
    }

pub returns : goal.returns
returns c = grind (arith, common_steps, front_here)
