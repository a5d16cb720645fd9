use Rattle.std.proofs.Common.{◌∙◌, ◌+◌, ◌-◌, ◌*◌, drop, arith}
use Rattle.std.specs.Float.{nan}
use lib.Seq.{get_or-take, get_or-drop}
use Rattle.board.specs.Inner.{lanes, lane}
use Rattle.board.proofs.Sums.{lane_more}
use Rattle.board.proofs.values.lane_sums.Goals as goal

pub loop-k-preserved : goal.loop-k-preserved
loop-k-preserved c =
    λ l l-in.
    let values = c.args.values.now in
    let from = c.loop-k.k * lanes in
    let here = get_or-take (from + lanes - from) (drop from values) l nan (omega arith) ∙ get_or-drop from values l nan in
    rw (c.add_row.ensures l l-in, c.loop-k.invariant l l-in, here, lane_more (lane values l) c.loop-k.k)
