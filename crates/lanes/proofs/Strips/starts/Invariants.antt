use Rattle.std.proofs.Common.{ℕ, ◌<◌}
use Rattle.lanes.specs.Walk.{apart}
use Rattle.lanes.specs.Inner.{LanesHold, lanes_of}
use Rattle.lanes.proofs.Strips.starts.Given as goal

abbrev pub invariant-loop-i : goal.invariant-loop-i
invariant-loop-i l = (j : ℕ) → j < l.i → LanesHold 5 (λ k. apart k 2) (lanes_of l.self j)
