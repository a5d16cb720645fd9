-- The best of `best` and the offsets passed.
use Rattle.std.proofs.Common.{get_or}
use Rattle.votes.specs.Inner.{Block, Picks}
use Rattle.votes.proofs.best_in_row.Given as goal

abbrev pub invariant-loop-offset : goal.invariant-loop-offset
invariant-loop-offset l = Picks (Block (λ x _. get_or l.row x 0) 0 l.offset l.q 1) l.initial.best l.best
