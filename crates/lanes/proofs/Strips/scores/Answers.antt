use Rattle.std.proofs.Common.{arith, length, ◌≡◌}
use Rattle.lists.proofs.Tab.{length_tab_from}
use Rattle.lists.proofs.Front.{front_more, front_all}
use Rattle.lanes.proofs.Strips.scores.Goals as goal

pub loop-i-preserved : goal.loop-i-preserved
loop-i-preserved c = front_more _ _ c.loop-i.invariant (omega arith) c.above.ensures

pub returns : goal.returns
returns c =
    let e : c.loop-i.i ≡ length c.args.out.now = omega arith in
    front_all (rw e at c.loop-i.invariant) (length_tab_from 0 _ _)
