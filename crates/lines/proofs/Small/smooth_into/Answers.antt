use Rattle.std.proofs.Common.{arith}
use Rattle.std.proofs.Math.Seq.{take-length}
use Rattle.lists.proofs.Front.{front_more}
use Rattle.lines.specs.Lines.{smoothed}
use Rattle.lines.proofs.Smoothing.{smooth_ended}
use Rattle.lines.proofs.Small.smooth_into.Goals as goal

pub loop-i-preserved : goal.loop-i-preserved
loop-i-preserved c =
    record {
      below = omega arith;
      front = front_more (smoothed c.args.self.now.values.now) c.loop-i.i c.loop-i.invariant.front (omega arith) c.smooth_at.ensures;
    }

pub returns : goal.returns
returns c =
    let s = c.args.self.now.values.now in
    smooth_ended s (rw (take-length s) at c.copy_front.ensures) c.loop-i.invariant.front (omega arith) (omega arith) (omega arith)
