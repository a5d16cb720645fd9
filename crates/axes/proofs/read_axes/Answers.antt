-- The two parts of the score slice are the score lists, which can be read.
use Rattle.std.proofs.Common.{ap, ◌∙◌}
use Rattle.reading.specs.Reading.{quarters_of}
use Rattle.axes.proofs.Scoring.{across_part, down_part, across_fit, down_fit}
use Rattle.axes.proofs.read_axes.Goals as goal

pub invariant_of-across_scores : goal.invariant_of-across_scores
invariant_of-across_scores c =
    let r = c.args.region.now in
    rw (across_part _ r.bounds c.score_all.ensures c.place_count-across.ensures c.place_count.ensures)
    (record { limits = across_fit _ _ c.score_all.ensures r.scorable })

pub invariant_of-down_scores : goal.invariant_of-down_scores
invariant_of-down_scores c =
    let r = c.args.region.now in
    rw (down_part _ r.bounds c.score_all.ensures c.place_count-across.ensures c.place_count.ensures)
    (record { limits = down_fit _ _ c.score_all.ensures r.scorable })

pub returns : goal.returns
returns c =
    let b = c.args.region.now.bounds in
    let across = c.place_count-across.ensures in
    let down = c.place_count.ensures in
    record {
      columns_are = c.quarters_of-columns.ensures ∙ ap quarters_of (across_part _ b c.score_all.ensures across down);
      rows_are = c.quarters_of-rows.ensures ∙ ap quarters_of (down_part _ b c.score_all.ensures across down);
      scores_are = c.score_all.ensures;
    }
