use Rattle.reading.proofs.Laws.{readable_low}
use Rattle.reading.proofs.read_lines.Goals as goal

pub count_of-requires : goal.count_of-requires
count_of-requires c =
    let asked = c.requires in
    rw c.winner_of-w.ensures (record { few = (readable_low asked, asked.some, asked.entries); rising = asked.rising })
