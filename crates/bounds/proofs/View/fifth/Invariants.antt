-- What is sought from the start is sought from here, with the points seen left out.
use Rattle.std.proofs.Common.{◌≡◌, ◌≤◌, ◌-◌, ℕ}
use Rattle.bounds.specs.Inner.{seen, low, high}
use Rattle.bounds.specs.Scan.{seen_at}
use Rattle.bounds.proofs.View.fifth.Given as goal

abbrev pub invariant-loop-p : goal.invariant-loop-p
invariant-loop-p g l =
    let set = λ (p : ℕ). seen l.self.layout (g.P.Points.bytes l.self.points) p l.m in
    let lo = low l.self.layout in
    let hi = high l.self.layout in
    (l.p ≤ hi) × (seen_at set 4 lo (hi - lo) ≡ seen_at set l.more l.p (hi - l.p))
