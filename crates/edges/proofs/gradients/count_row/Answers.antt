use Rattle.std.proofs.Common.{get_or, arith}
use Rattle.std.specs.Float.{nan, binary32}
use Rattle.std.specs.Float.Ieee.{to_bits}
use Rattle.lists.proofs.Count.{count_more, byte_at_most}
use Rattle.rank.specs.Inner.{at_most}
use Rattle.binary32.proofs.Plain.{bits_plain, plain_number}
use Rattle.edges.proofs.gradients.count_row.Goals as goal

pub float_to_bits-n : goal.float_to_bits-n
float_to_bits-n c =
    let k = c.loop-x.x-index in
    plain_number _ (bits_plain _ (c.type_inv.row k) (c.requires.plain k (omega arith)))

pub loop-x-preserved : goal.loop-x-preserved
loop-x-preserved c =
    let row = c.args.row.now in
    let k = c.loop-x.x-index in
    let counted = at_most (to_bits binary32) c.args.bits in
    let more = count_more counted row k nan (omega arith) in
    (omega (arith, c.loop-x.invariant.0, byte_at_most (counted (get_or row k nan))), omega (arith, c.loop-x.invariant.1, more))
