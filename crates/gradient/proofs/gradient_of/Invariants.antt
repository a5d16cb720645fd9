-- The rows before i stand at the front, and this row stands behind them up to column j.
use Rattle.std.proofs.Common.{◌*◌}
use Rattle.lists.specs.Front.{AtFront}
use Rattle.lists.specs.Inner.{Placed}
use Rattle.lists.specs.Tab.{tab, grid}
use Rattle.board.specs.Screen.{view}
use Rattle.gradient.specs.Gradient.{gradient_at}
use Rattle.gradient.proofs.gradient_of.Given as goal

abbrev pub invariant-loop-j : goal.invariant-loop-j
invariant-loop-j l =
    Placed (tab l.j (gradient_at (view l.fn.height l.fn.width l.fn.planes).px l.i)) (l.i * l.column) l.initial.out l.out

abbrev pub invariant-loop-i : goal.invariant-loop-i
invariant-loop-i l = AtFront (grid l.i l.column (gradient_at (view l.fn.height l.fn.width l.fn.planes).px)) l.initial.out l.out
