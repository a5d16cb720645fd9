-- The count is that of the rows before i.
use Rattle.std.proofs.Common.{◌≡◌, ◌*◌, ◌≤◌}
use Rattle.std.specs.Float.{binary32}
use Rattle.std.specs.Float.Ieee.{to_bits}
use Rattle.lists.specs.Tab.{grid}
use Rattle.rank.specs.Inner.{count_at_most}
use Rattle.edges.specs.Inner.{taken}
use Rattle.edges.proofs.Sample.{part_at}
use Rattle.edges.proofs.gradients.Gradients.count_part.Given as goal

abbrev pub invariant-loop-i : goal.invariant-loop-i
invariant-loop-i l =
    let g = l.self in
    let p = l.part in
    let value = part_at p.every p.parts g.row g.column g.values.now in
    (l.count ≤ 2048 * l.i) × (l.count ≡ count_at_most (to_bits binary32) l.bits (grid l.i (taken p.parts g.column) value))
