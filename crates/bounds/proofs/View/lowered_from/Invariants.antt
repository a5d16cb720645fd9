-- The first distance from the start on is the first from here on, and 0 stays.
use Rattle.std.proofs.Common.{◌≡◌, ◌≤◌, min}
use Rattle.bounds.specs.Inner.{seen}
use Rattle.bounds.specs.Widen.{lowered, sum_at}
use Rattle.bounds.proofs.View.lowered_from.Given as goal

abbrev pub invariant-loop-m : goal.invariant-loop-m
invariant-loop-m g l =
    let sum = sum_at l.beside (seen l.self.layout (g.P.Points.bytes l.self.points)) l.self.layout.across in
    (min l.from 1 ≤ l.m) × (lowered sum l.from ≡ lowered sum l.m)
