use Rattle.std.proofs.Common.{sym, ◌∙◌, arith}
use Rattle.bounds.specs.Inner.{seen, low, high}
use Rattle.bounds.proofs.Scans.{skips_next}
use Rattle.bounds.proofs.View.skip_from.Goals as goal

pub loop-skip-preserved : goal.loop-skip-preserved
loop-skip-preserved g c =
    let v = c.args.self.now in
    let next = skips_next (seen v.layout (g.P.Points.bytes v.points)) (low v.layout) (high v.layout) c.args.m c.loop-skip.skip in
    c.loop-skip.invariant ∙ next (omega arith) (omega arith) (sym c.fifth.ensures ∙ c.in_default.is)
