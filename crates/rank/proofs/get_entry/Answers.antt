use Rattle.std.proofs.Common.{arith}
use Rattle.rank.specs.Rank.{self}
use Rattle.rank.proofs.Entry.{between_all, between_left, between_right}
use Rattle.rank.proofs.get_entry.Goals as goal

pub loop-lo-init : goal.loop-lo-init
loop-lo-init c = (between_all self 0 _ _ _ c.if-s-j.false c.requires.1, omega arith)

pub loop-lo-preserved-then-j-count_passing : goal.loop-lo-preserved-then-j-count_passing
loop-lo-preserved-then-j-count_passing c =
    let more = c.count_passing.ensures in
    (between_left self 0 _ c.loop-lo.invariant.0 c.if-s-j.false (omega (arith, c.if-j-count_passing.true, more)), omega arith)

pub loop-lo-preserved : goal.loop-lo-preserved
loop-lo-preserved c =
    let few = c.count_passing.ensures in
    (between_right self 0 _ c.loop-lo.invariant.0 c.if-s-j.false (omega (arith, c.if-j-count_passing.false, few)), c.loop-lo.invariant.1)
