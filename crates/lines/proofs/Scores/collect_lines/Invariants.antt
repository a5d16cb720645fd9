-- The lines that were collected and those still to come make all lines.
use Rattle.std.proofs.Common.{◌≤◌, length}
use Rattle.lines.specs.Lines.{is_line, places_of}
use Rattle.lines.proofs.Collecting.{Collected, places_from}
use Rattle.lines.proofs.Scores.collect_lines.Given as goal

abbrev pub invariant-loop-i : goal.invariant-loop-i
invariant-loop-i l =
    let t = l.self.values.now in
    record {
      few : l.n ≤ l.i;
      collected : Collected (places_of l.th t) (places_from (is_line l.th t) l.i (length t)) l.n l.initial.lines l.lines;
    }
