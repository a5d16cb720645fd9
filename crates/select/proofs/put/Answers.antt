use Rattle.std.proofs.Common.{rules, arith}
use Rattle.lists.proofs.Front.{front_more}
use Rattle.binary32.proofs.Plain.{bits_number}
use Rattle.select.proofs.put.Goals as goal

pub float_from_bits-out : goal.float_from_bits-out
float_from_bits-out c =
    let l = c.loop-l.l in
    let plain = c.requires.plain l (omega (arith, c.loop-l-test.true, c.loop-l.invariant.len)) in
    rw (bits_number c.max.result (omega (arith, plain, c.max.ensures))) tt

pub loop-l-preserved : goal.loop-l-preserved
loop-l-preserved c = search (rules, front_more)
