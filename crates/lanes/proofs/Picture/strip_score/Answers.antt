use Rattle.std.proofs.Common.{arith, refl, ◌∙◌}
use Rattle.lanes.proofs.States.{row_in, row_more, lane_score}
use Rattle.lanes.proofs.Picture.strip_score.Goals as goal

pub invariant_of-advanced-clause-inside : goal.invariant_of-advanced-clause-inside
invariant_of-advanced-clause-inside c = row_in _ _ _ _ _ _ _ c.loop-row-test.true c.requires.0 c.args.self.now.inside

pub loop-row-preserved : goal.loop-row-preserved
loop-row-preserved c = row_more _ _ _ _ _ _ c.loop-row.row _ _ _ c.requires.1 (omega arith) refl c.loop-row.invariant c.advanced-v.ensures

pub above-requires : goal.above-requires
above-requires c = (lane_score c.args.self.now.to _ c.loop-row.invariant (omega arith) c.lane.ensures).0

pub returns : goal.returns
returns c = c.above.ensures ∙ (lane_score _ _ c.loop-row.invariant (omega arith) c.lane.ensures).1
