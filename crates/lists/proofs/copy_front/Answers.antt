use Rattle.std.proofs.Common.{rules}
use Rattle.lists.proofs.Front.{copied_next}
use Rattle.lists.proofs.copy_front.Goals as goal

pub loop-k-preserved : goal.loop-k-preserved
loop-k-preserved g c = copied_next _ _ c.loop-k-test.true c.x-item.is (search rules) c.loop-k.invariant
