use Rattle.std.proofs.Common.{arith, rules}
use Rattle.lists.proofs.Front.{same_next}
use Rattle.lists.proofs.clear_front.Goals as goal

pub loop-k-preserved : goal.loop-k-preserved
loop-k-preserved g c =
    (omega arith, rw c.zero.ensures (same_next _ c.loop-k.k c.loop-k.invariant.1 (search rules)))
