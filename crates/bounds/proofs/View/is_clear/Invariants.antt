-- The sum so far, at most 2, with that of the places left is the whole.
use Rattle.std.proofs.Common.{◌≡◌, ◌≤◌, ◌+◌, ◌-◌}
use Rattle.bounds.specs.Inner.{seen, high}
use Rattle.bounds.specs.Widen.{pair, total, sum_at}
use Rattle.bounds.proofs.View.is_clear.Given as goal

abbrev pub invariant-loop-p : goal.invariant-loop-p
invariant-loop-p g l =
    let at = seen l.self.layout (g.P.Points.bytes l.self.points) in
    (l.sum ≤ 2) × (sum_at l.beside at l.self.layout.across l.m ≡ l.sum + total (pair l.beside at l.m) l.p (high l.self.layout - l.p))
