-- What was found and the rest have the largest of the whole list.
use Rattle.std.proofs.Common.{◌≡◌, max, drop}
use Rattle.lines.specs.Lines.{largest}
use Rattle.lines.proofs.largest_of.Given as goal

abbrev pub invariant-loop-x : goal.invariant-loop-x
invariant-loop-x l = max l.most (largest (drop l.x-index l.s)) ≡ largest l.s
