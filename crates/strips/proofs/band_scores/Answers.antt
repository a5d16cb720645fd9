use Rattle.std.proofs.Common.{arith, refl, ◌∙◌}
use Rattle.lists.proofs.Tab.{tab_same}
use Rattle.strips.proofs.Bands.{block_in}
use Rattle.strips.proofs.Turning.{turned_in, turned_marks, turned_score}
use Rattle.strips.proofs.band_scores.Goals as goal

pub invariant_of-block : goal.invariant_of-block
invariant_of-block c =
    let p = c.args.p.now in
    record { inside = block_in p.from p.to c.args.r _ p.across p.last _ p.ahead c.requires.2 (rw c.requires.0 at p.inside) }

pub invariant_of-columns-clause-inside : goal.invariant_of-columns-clause-inside
invariant_of-columns-clause-inside c = turned_in _ _ _ (omega arith) (omega arith)

pub invariant_of-columns-clause-marks : goal.invariant_of-columns-clause-marks
invariant_of-columns-clause-marks c = turned_marks c.turn.ensures (omega arith) c.args.p.now.marks

pub returns : goal.returns
returns c =
    c.sweep_scores.ensures
    ∙ tab_same _ _ _ (λ i h. turned_score c.args.r c.args.p.now.from c.turn.ensures c.args.p.now.to refl i (omega arith))
