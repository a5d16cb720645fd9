use Rattle.std.proofs.Common.{arith, ◌≡◌}
use Rattle.strips.proofs.Turning.{rows_more}
use Rattle.strips.proofs.Block.turn_rows.Goals as goal

pub loop-j-preserved : goal.loop-j-preserved
loop-j-preserved c =
    let e : c.loop-d.d ≡ c.args.w = omega arith in
    rows_more c.loop-j.invariant c.requires.0 (rw e at c.loop-d.invariant)
