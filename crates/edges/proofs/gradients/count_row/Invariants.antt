-- What was counted is the count of the first values.
use Rattle.std.proofs.Common.{◌≡◌, ◌≤◌, take}
use Rattle.std.specs.Float.{binary32}
use Rattle.std.specs.Float.Ieee.{to_bits}
use Rattle.rank.specs.Inner.{count_at_most}
use Rattle.edges.proofs.gradients.count_row.Given as goal

abbrev pub invariant-loop-x : goal.invariant-loop-x
invariant-loop-x l = (l.n ≤ l.x-index) × (l.n ≡ count_at_most (to_bits binary32) l.bits (take l.x-index l.row))
