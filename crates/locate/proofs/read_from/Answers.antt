-- The last bounds, widened, are fit for the scores, and both axes are read over them.
use Rattle.axes.proofs.Scoring.{across_fit, down_fit, quarters_fit}
use Rattle.locate.proofs.Leading.{scorable, room_for}
use Rattle.locate.proofs.read_from.Goals as goal

pub invariant_of-region : goal.invariant_of-region
invariant_of-region c = rw c.widen-wide.ensures (record { scorable = scorable c.requires })

pub read_axes-axes-requires : goal.read_axes-axes-requires
read_axes-axes-requires c = rw c.widen-wide.ensures (room_for c.requires)

pub joined-requires : goal.joined-requires
joined-requires c =
    let is = rw c.widen-wide.ensures at c.read_axes-axes.ensures in
    let fit = scorable c.requires in (
      rw is.columns_are (quarters_fit _ (across_fit _ _ is.scores_are fit)),
      rw is.rows_are (quarters_fit _ (down_fit _ _ is.scores_are fit)),
    )
