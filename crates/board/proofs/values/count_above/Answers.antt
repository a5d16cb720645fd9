use Rattle.std.proofs.Common.{not, ltb, get_or, arith}
use Rattle.std.specs.Float.{nan, binary32}
use Rattle.std.specs.Float.Ieee.{to_bits}
use Rattle.lists.proofs.Count.{count_more, byte_at_most}
use Rattle.binary32.specs.Binary32.{unit}
use Rattle.board.proofs.Sums.{above_one}
use Rattle.board.proofs.values.count_above.Goals as goal

pub loop-x-preserved : goal.loop-x-preserved
loop-x-preserved c =
    let values = c.args.values.now in
    let k = c.loop-x.x-index in
    let more = count_more (λ x. not (unit x)) values k nan (omega arith) in
    (omega (arith, c.loop-x.invariant.0, byte_at_most (ltb 0x3F800000 (to_bits binary32 (get_or values k nan)))), omega (arith, c.loop-x.invariant.1, above_one (get_or values k nan), more))
