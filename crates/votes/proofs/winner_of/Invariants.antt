-- The best of all offsets with the values of q passed.
use Rattle.std.proofs.Common.{◌≡◌, ◌+◌, ◌-◌, ◌≤◌, max, length, get_or}
use Rattle.votes.specs.Votes.{votes}
use Rattle.votes.specs.Inner.{Block, Picks}
use Rattle.votes.proofs.Winner.{nothing}
use Rattle.votes.proofs.winner_of.Given as goal

abbrev pub invariant-loop-q : goal.invariant-loop-q
invariant-loop-q l =
    record {
      width : length l.row ≡ get_or l.lines 0 0 + 8;
      high : l.q ≤ max l.initial.q l.q-end;
      picks : Picks (Block (votes l.e l.lines) 0 (get_or l.lines 0 0 + 8) l.initial.q (l.q - l.initial.q)) nothing l.best;
    }
