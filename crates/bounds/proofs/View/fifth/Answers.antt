use Rattle.std.proofs.Common.{ℕ, ◌∙◌, sym, arith}
use borrow.Author.Tests.{ne_eqb}
use Rattle.bounds.specs.Inner.{seen}
use Rattle.bounds.proofs.Scans.{seen_more}
use Rattle.bounds.proofs.View.fifth.Goals.{then-is_set+else-more-eq0, else-is_set}
use Rattle.bounds.proofs.View.fifth.Goals as goal

pub loop-p-preserved : goal.loop-p-preserved
loop-p-preserved g c =
    let v = c.args.self.now in
    let set = λ (p : ℕ). seen v.layout (g.P.Points.bytes v.points) p c.args.m in
    let more = c.loop-p.invariant.1 ∙ seen_more set c.loop-p.more c.loop-p.p _ c.loop-p-test.true in
    let e = c.is_set.ensures in
    elim c.if-is_set.branch [
      | then-is_set+else-more-eq0 w ↦ (omega arith, rw w.more-is (rw (sym e ∙ w.if-is_set.true, ne_eqb c.loop-p.more 0 w.if-more-eq0.false) at more))
      | else-is_set w ↦ (omega arith, rw w.more-is (rw (sym e ∙ w.if-is_set.false) at more))
    ]
