-- Each entry with the votes of the n to come is as the whole makes it.
use Rattle.std.proofs.Common.{◌≡◌, ℕ, ◌+◌, ◌-◌, ◌<◌, length, get_or}
use Rattle.votes.specs.Votes.{votes_of_line}
use Rattle.votes.proofs.vote_line.Given as goal

abbrev pub invariant-loop-n : goal.invariant-loop-n
invariant-loop-n l =
    record {
      len : length l.row ≡ length l.initial.row;
      sum : (o : ℕ) → o < length l.initial.row → get_or l.row o 0 + votes_of_line l.l l.q o l.n (l.end - l.n)
          ≡ get_or l.initial.row o 0 + votes_of_line l.l l.q o l.from (l.end - l.from);
    }
