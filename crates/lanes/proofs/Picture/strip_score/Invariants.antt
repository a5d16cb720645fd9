use Rattle.lists.specs.Picture.{points}
use Rattle.lanes.specs.Score.{at}
use Rattle.lanes.specs.Inner.{Walked}
use Rattle.lanes.proofs.Picture.strip_score.Given as goal

abbrev pub invariant-loop-row : goal.invariant-loop-row
invariant-loop-row l = Walked (points l.self.down l.self.across l.self.edges.now) l.self.from (at l.c l.k) l.row l.v
