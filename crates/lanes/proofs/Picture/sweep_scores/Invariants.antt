use Rattle.std.proofs.Common.{ℕ, ◌+◌, ◌≤◌, ◌<◌, length}
use Rattle.lists.specs.Picture.{points}
use Rattle.lanes.specs.Score.{at}
use Rattle.lanes.specs.Inner.{Walked, lanes_of, Swept}
use Rattle.lanes.proofs.Picture.sweep_scores.Given as goal

abbrev pub invariant-loop-row : goal.invariant-loop-row
invariant-loop-row l = Swept (points l.self.down 1 l.self.edges.now) l.self.from l.c (length l.out) l.row l.st

-- the strips before i are one row further than the others
abbrev pub invariant-loop-i : goal.invariant-loop-i
invariant-loop-i l =
    let walked : ℕ → ℕ → Type 0 =
    λ row j. Walked (points l.self.down 1 l.self.edges.now) l.self.from (at (l.c + j) 2) row (lanes_of l.st j) in
    ((j : ℕ) → j < l.i → walked (l.row + 1) j) × ((j : ℕ) → l.i ≤ j → j < length l.out → walked l.row j)
