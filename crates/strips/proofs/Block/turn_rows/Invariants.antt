use Rattle.strips.specs.Inner.{RowTurned, RowsTurned}
use Rattle.strips.proofs.Block.turn_rows.Given as goal

abbrev pub invariant-loop-j : goal.invariant-loop-j
invariant-loop-j l = RowsTurned l.self.edges.now l.self.first l.self.stride l.j l.self.height l.i l.w l.initial.t l.t

abbrev pub invariant-loop-d : goal.invariant-loop-d
invariant-loop-d l = RowTurned l.self.edges.now l.self.first l.self.stride l.self.height l.j l.i l.d l.initial.t l.t
