use Rattle.std.proofs.Common.{◌∙◌, arith}
use Rattle.lines.specs.Lines.{lines_of}
use Rattle.lines.proofs.Laws.{lines_few, lines_low, gaps_few, gaps_low, estimate_is}
use Rattle.reading.proofs.Answers.{too_wide}
use Rattle.reading.proofs.Laws.{standing}
use Rattle.reading.proofs.remaining_of.Goals as goal

pub wide_gaps-m-requires : goal.wide_gaps-m-requires
wide_gaps-m-requires c =
    rw c.find_lines-n.ensures.part (omega (arith, lines_few c.args.s.now.values.now, c.requires.1, c.find_lines-n.auto))

pub invariant_of-gaps : goal.invariant_of-gaps
invariant_of-gaps c =
    let s = c.args.s.now in
    rw (c.wide_gaps-m.ensures.part, c.find_lines-n.ensures.part) (omega (arith, s.limits.longest, gaps_low s.values.now))

pub chosen_gap-e-requires : goal.chosen_gap-e-requires
chosen_gap-e-requires c =
    let s = c.args.s.now in
    rw (c.wide_gaps-m.ensures.part, c.find_lines-n.ensures.part)
    (omega (arith, s.limits.longest, gaps_few (lines_of s.values.now), lines_few s.values.now))

pub returns-then-e-ge-WIDE : goal.returns-then-e-ge-WIDE
returns-then-e-ge-WIDE c =
    let lines = lines_of c.args.s.now.values.now in
    let counted = rw c.find_lines-n.ensures.part at c.wide_gaps-m.ensures.counted in
    let e = rw (c.wide_gaps-m.ensures.part, c.find_lines-n.ensures.part) at c.chosen_gap-e.ensures ∙ estimate_is lines in
    too_wide lines (omega (arith, counted, c.if-m-eq0.false)) (omega (arith, e, c.if-e-ge-WIDE.true))

pub invariant_of-lines : goal.invariant_of-lines
invariant_of-lines c =
    let s = c.args.s.now in
    rw c.find_lines-n.ensures.part (omega (arith, s.limits.longest, lines_low s.values.now))

pub returns : goal.returns
returns c =
    let s = c.args.s.now in
    let found = c.find_lines-n.ensures in
    let counted = rw found.part at c.wide_gaps-m.ensures.counted in
    let e = rw (c.wide_gaps-m.ensures.part, found.part) at c.chosen_gap-e.ensures ∙ estimate_is (lines_of s.values.now) in
    standing s.values.now s.limits found.front (rw found.part at c.kept_lines-kept.ensures) e
    (omega (arith, counted, c.if-m-eq0.false))
    (omega (arith, c.if-e-ge-WIDE.false))
