use Rattle.std.proofs.Common.{◌≡◌, ◌∙◌, Err, length, refl, sym, ap, rules}
use lib.Seq.{drop_at, length-take-le}
use Rattle.refusal.specs.Refusal.{number, numbered}
use Rattle.refusal.proofs.Numbers.{number_some}
use Rattle.reading.specs.Reading.{pitched}
use Rattle.reading.specs.Inner.{gap_number}
use Rattle.reading.proofs.Answers.{line_fit, declined, taken, line_gives}
use Rattle.reading.proofs.Laws.{quarters_pitched}
use Rattle.reading.proofs.get_line.Goals as goal

pub returns-in_err-check-clause-reads : goal.returns-in_err-check-clause-reads
returns-in_err-check-clause-reads c =
    let refusal = c.in_err-check.field-0.0 in
    let is : c.from_residual.result ≡ Err refusal = search rules in
    rw is (declined c.args.list.now (length c.args.scratch.now) c.in_err-check.ensures (number_some refusal))

pub returns-in_err-check-clause-gives : goal.returns-in_err-check-clause-gives
returns-in_err-check-clause-gives c =
    let refusal = c.in_err-check.field-0.0 in
    let is : c.from_residual.result ≡ Err refusal = search rules in
    rw is
    (line_gives c.args.list.now c.args.scratch.now
    (declined c.args.list.now (length c.args.scratch.now) c.in_err-check.ensures (number_some refusal))
    refl)

pub returns-in_err-read-clause-reads : goal.returns-in_err-read-clause-reads
returns-in_err-read-clause-reads c =
    let gap = c.in_err-read.field-0.0 in
    let is : numbered number c.from_residual-in_err-read.result ≡ Err (gap_number gap) = search rules in
    is ∙ ap pitched c.in_err-read.ensures ∙ taken c.args.list.now (length c.args.scratch.now) (search rules)

pub returns-in_err-read-clause-gives : goal.returns-in_err-read-clause-gives
returns-in_err-read-clause-gives c =
    let list = c.args.list.now in
    let room = length c.args.scratch.now in
    let gap = c.in_err-read.field-0.0 in
    let is : numbered number c.from_residual-in_err-read.result ≡ Err (gap_number gap) = search rules in
    let fits = line_fit list room (search rules) in
    line_gives list c.args.scratch.now (is ∙ ap pitched c.in_err-read.ensures ∙ taken list room (search rules))
    (drop_at c.quarters_of.new.scratch _ _ (c.quarters_of.auto.scratch ∙ length-take-le _ _ fits.1))

pub pitch_of-requires : goal.pitch_of-requires
pitch_of-requires c =
    let fits = line_fit c.args.list.now (length c.args.scratch.now) (search rules) in
    rw (sym c.in_ok-read.ensures) at (quarters_pitched c.args.list.now fits.0)

pub returns-clause-reads : goal.returns-clause-reads
returns-clause-reads c =
    rw c.pitch_of.ensures (ap pitched c.in_ok-read.ensures ∙ taken c.args.list.now (length c.args.scratch.now) (search rules))

pub returns-clause-gives : goal.returns-clause-gives
returns-clause-gives c =
    let list = c.args.list.now in
    let room = length c.args.scratch.now in
    let fits = line_fit list room (search rules) in
    rw c.pitch_of.ensures
    (line_gives list c.args.scratch.now (ap pitched c.in_ok-read.ensures ∙ taken list room (search rules))
    (drop_at c.quarters_of.new.scratch _ _ (c.quarters_of.auto.scratch ∙ length-take-le _ _ fits.1)))
