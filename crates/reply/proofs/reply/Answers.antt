-- The two lines are those of the values that `answer_to` hands back for the bytes read, which are enough (Room). Fourteen numbers fit
-- into `text_room` bytes.
use Rattle.std.proofs.Common.{sym, ap, ◌∙◌, refl, arith, rules}
use lib.Seq.{length-take-le}
use Rattle.lists.proofs.Front.{front_fits}
use Rattle.reply.specs.Answer.{answer_to}
use Rattle.reply.proofs.Fitting.{lines_fit}
use Rattle.reply.proofs.Room.{enough}
use Rattle.reply.proofs.reply.Goals as goal

pub write_lines-requires : goal.write_lines-requires
write_lines-requires c = omega (arith, c.requires.2, lines_fit c.answer_to-values.result (search rules))

pub returns : goal.returns
returns c =
    let lines = c.write_lines.ensures in
    record {
      lines = λ input e.
          let is = c.answer_to-values.ensures ∙ sym (ap answer_to e) ∙ enough input in
          (rw is at lines.length_is, rw is at lines.front);
      within = omega (arith, lines.length_is, front_fits lines.front);
    }
