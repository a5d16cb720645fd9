-- The gaps that were collected and those still to come make all wide gaps.
use Rattle.std.proofs.Common.{◌≡◌, ◌+◌, ◌≤◌, length}
use Rattle.std.specs.Slice.Iter.{windows_rest, windows_size}
use Rattle.lines.specs.Lines.{wide_gaps}
use Rattle.lines.proofs.Collecting.{Collected}
use Rattle.lines.proofs.wide_gaps.Given as goal

abbrev pub invariant-loop-pair : goal.invariant-loop-pair
invariant-loop-pair l =
    let rest = windows_rest l.pair-iterator in
    (goal.iterator-loop-pair).can_next l.pair-iterator
    × (goal.iterator-loop-pair).is_finite l.pair-iterator
    × record {
      two : windows_size l.pair-iterator ≡ 2;
      few : l.n + length rest ≤ length l.lines;
      collected : Collected (wide_gaps l.lines) (wide_gaps rest) l.n l.initial.out l.out;
    }
