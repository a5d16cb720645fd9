use Rattle.std.proofs.Common.{arith}
use Rattle.lists.proofs.Front.{placed_more}
use Rattle.map.proofs.page.Page.put_marks.Goals as goal

pub loop-y-preserved : goal.loop-y-preserved
loop-y-preserved c = placed_more _ c.loop-y.y c.loop-y.invariant (omega (arith, c.requires)) c.mark_at.ensures
