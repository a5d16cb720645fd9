use Rattle.std.proofs.Common.{arith}
use Rattle.binary32.proofs.Plain.{Plain}
use Rattle.edges.specs.Inner.{part}
use Rattle.edges.specs.declared.gradients.Gradients.{Gradients}
use Rattle.edges.proofs.Sample.{AllAre, part_plain, part_all}
use Rattle.edges.proofs.Threshold.{encloses_all, encloses_cut, encloses_one}
use Rattle.edges.proofs.search.threshold_bits.Goals as goal

-- the values of the sample are plain
plain : (g : Gradients) → AllAre Plain (part 1 1 g.row g.column g.values.now)
plain g = part_plain 1 1 g.row g.column g.values.now (omega arith) (omega arith) g.fit.long g.held g.fit.plain

pub loop-range-init : goal.loop-range-init
loop-range-init c = encloses_all _ _ _ (plain c.args.g.now) c.limits-range.ensures.0 c.limits-range.ensures.1

pub loop-range-preserved : goal.loop-range-preserved
loop-range-preserved c =
    let m = c.next_count-mid.ensures in
    encloses_cut (plain c.args.g.now) c.loop-range.invariant m.0 m.1 c.count_part.ensures (rw c.from.ensures at c.cut-range.ensures.lower)
    (rw c.from.ensures at c.cut-range.ensures.upper)

pub returns-clause-found : goal.returns-clause-found
returns-clause-found c =
    let g = c.args.g.now in
    rw (← part_all g.row g.column g.values.now) (encloses_one (plain g) c.loop-range.invariant c.loop-range-test.false)
