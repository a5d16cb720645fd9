use Rattle.std.proofs.Common.{arith}
use Rattle.lists.proofs.Picture.{flip_points}
use Rattle.strips.proofs.Scores.{count_least, joined}
use Rattle.strips.proofs.Region.row_scores.Goals as goal

pub returns : goal.returns
returns c =
    let r = c.args.self.now in
    let l = count_least _ _ r.scorable.rows in
    rw (flip_points r.stride 1 r.edges.now)
    (joined _ _ _ _ _ _ _ _ _ c.place_count-last.ensures (omega (arith, l)) (omega arith) c.banded_scores.ensures c.border_scores.ensures)
