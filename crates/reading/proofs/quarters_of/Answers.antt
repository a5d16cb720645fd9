use Rattle.std.proofs.Common.{◌≡◌, Err, rules}
use Rattle.reading.proofs.Answers.{refused, gap_some}
use Rattle.reading.proofs.Laws.{standing_read}
use Rattle.reading.proofs.quarters_of.Goals as goal

pub returns-in_err-kept : goal.returns-in_err-kept
returns-in_err-kept c =
    let gap = c.in_err-kept.field-0.0 in
    let is : c.from_residual.result ≡ Err gap = search rules in
    rw is (refused c.args.s.now.values.now c.in_err-kept.ensures (gap_some gap))

pub returns : goal.returns
returns c = standing_read c.in_ok-kept.ensures c.read_lines.ensures
