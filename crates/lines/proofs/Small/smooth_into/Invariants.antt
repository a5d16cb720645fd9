-- The copy is smoothed up to i.
use Rattle.std.proofs.Common.{◌≤◌, ◌-◌, max, length}
use Rattle.lists.specs.Front.{AtFront}
use Rattle.lists.specs.Tab.{tab}
use Rattle.lines.specs.Lines.{smoothed}
use Rattle.lines.proofs.Small.smooth_into.Given as goal

abbrev pub invariant-loop-i : goal.invariant-loop-i
invariant-loop-i l =
    let s = l.self.values.now in
    record {
      below : l.i ≤ max 4 (length s - 4);
      front : AtFront (tab l.i (smoothed s)) l.initial.t l.t;
    }
