-- The rank is a place of the sample.
use Rattle.std.proofs.Common.{arith}
use Rattle.binary32.proofs.Plain.{bits_back}
use Rattle.edges.specs.Edges.{threshold}
use Rattle.edges.proofs.Sample.{rank_in}
use Rattle.edges.proofs.threshold_of.Goals as goal

pub overflow_cast-rank : goal.overflow_cast-rank
overflow_cast-rank c =
    let a = c.args in
    let s = c.requires.sides_in in
    omega (arith, c.rank_of-rank.ensures, (rank_in a.row a.column a.g.now c.size.ensures.is s.0 s.1 c.size.ensures.few).0)

pub returns-clause-is : goal.returns-clause-is
unfolding threshold
returns-clause-is c =
    let a = c.args in
    let s = c.requires.sides_in in
    let r = rank_in a.row a.column a.g.now c.size.ensures.is s.0 s.1 c.size.ensures.few in
    rw (← r.1, ← c.rank_of-rank.ensures) (c.threshold_bits.ensures.found (rw (c.rank_of-rank.ensures, ← r.1) r.0))

pub returns-clause-by_bits : goal.returns-clause-by_bits
returns-clause-by_bits c =
    let b = c.threshold_bits in
    (c.requires.gradients_fit.plain, omega (arith, bits_back b.result (omega (arith, b.ensures.ceiling)), b.ensures.ceiling))
