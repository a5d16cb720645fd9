use Rattle.std.proofs.Common.{arith}
use Rattle.strips.proofs.Scores.{count_least, joined}
use Rattle.strips.proofs.Region.column_scores.Goals as goal

pub returns : goal.returns
returns c =
    let l = count_least _ _ c.args.self.now.scorable.columns in
    joined _ _ _ _ _ _ _ _ _ c.place_count-last.ensures (omega (arith, l)) (omega arith) c.sweep_scores.ensures c.border_scores.ensures
