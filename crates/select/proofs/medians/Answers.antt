use Rattle.std.proofs.Common.{arith}
use Rattle.select.proofs.Passes.{middle_le}
use Rattle.select.proofs.medians.Goals as goal

pub put-requires-clause-plain : goal.put-requires-clause-plain
put-requires-clause-plain c = λ l h.
    rw (c.select.auto.x, c.select.ensures l (omega (arith, c.requires.room.1)))
    (middle_le 0x7F800000 c.requires.room.0 (λ k b. c.requires.plain l k h b))
