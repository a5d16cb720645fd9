-- `axes::score_all` meets its contract: the row scores go to the front of the part behind the column scores.
use mathlib.Core.Path.{◌∙◌, sym}
use Rattle.lists.proofs.Front.{front_behind}
use Rattle.strips.proofs.Scores.{length_scores}
use Rattle.axes.proofs.score_all.Goals as goal

pub returns : goal.returns
returns c =
    let count = c.place_count-from.ensures in
    front_behind _ (length_scores _ _ _ _ _ ∙ sym count) c.column_scores.ensures c.row_scores.ensures
