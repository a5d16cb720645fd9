use Rattle.std.proofs.Common.{◌-◌, ◌≤◌, ◌≡◌, ◌%◌}
use Rattle.strips.specs.Inner.{Turned}
use Rattle.strips.proofs.Block.turn.Given as goal

abbrev pub invariant-loop-i : goal.invariant-loop-i
invariant-loop-i l =
    (l.i ≤ l.self.height)
    × ((l.self.height - l.i) % 8 ≡ 0)
    × Turned l.self.edges.now l.self.first l.self.stride l.self.width l.self.height l.i l.t
