use Rattle.std.proofs.Common.{arith, rules, ◌+◌, ◌∙◌}
use borrow.Author.Count.{below_more}
use Rattle.lists.specs.Picture.{points}
use Rattle.lists.proofs.Tab.{tab_same}
use Rattle.lanes.specs.Score.{at}
use Rattle.lanes.specs.Inner.{Walked, lanes_of}
use Rattle.lanes.proofs.States.{row_more, lane_score}
use Rattle.lanes.proofs.Picture.sweep_scores.Goals as goal

pub loop-i-preserved : goal.loop-i-preserved
loop-i-preserved c =
    let p = c.args.self.now in
    let l = c.loop-i in
    let old : Walked (points p.down 1 p.edges.now) p.from (at (c.args.c + l.i) 2) c.loop-row.row c.at.result =
    rw c.at.ensures (l.invariant.1 l.i (omega arith) (omega arith)) in
    let new =
    row_more p.edges.now p.down 1 p.from (c.args.c + l.i) 2 c.loop-row.row _ _ _ (omega arith) (omega arith) (omega arith) old
    c.advanced-v.ensures in (
      below_more (λ j. Walked (points p.down 1 p.edges.now) p.from (at (c.args.c + j) 2) (c.loop-row.row + 1) (lanes_of c.put.new.self j)) l.i
          (λ j h. rw (c.put.ensures.old j (λ e. omega (arith, e))) (l.invariant.0 j h)) (rw c.put.ensures.new new),
      λ j h k. rw (c.put.ensures.old j (λ e. omega (arith, e))) (l.invariant.1 j (omega arith) k),
    )

pub scores-requires : goal.scores-requires
scores-requires c =
    (search rules, λ i h. (lane_score c.args.self.now.to _ (c.loop-row.invariant.strip i h) (omega arith) (λ n cost l. l.c)).0)

pub returns : goal.returns
returns c =
    c.scores.ensures
    ∙ tab_same _ _ _ (λ i h. (lane_score _ _ (c.loop-row.invariant.strip i h) (omega arith) (λ n cost l. l.c)).1)
