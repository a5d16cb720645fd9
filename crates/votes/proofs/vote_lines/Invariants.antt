-- Each entry with the votes of the lines to come is as the whole makes it.
use Rattle.std.proofs.Common.{◌≡◌, ℕ, ◌+◌, ◌<◌, length, get_or, drop}
use Rattle.votes.specs.Votes.{votes}
use Rattle.votes.proofs.vote_lines.Given as goal

abbrev pub invariant-loop-line : goal.invariant-loop-line
invariant-loop-line l =
    record {
      len : length l.row ≡ length l.initial.row;
      sum : (o : ℕ) → o < length l.initial.row → get_or l.row o 0 + votes l.e (drop l.line-index l.lines) o l.q
          ≡ get_or l.initial.row o 0 + votes l.e l.lines o l.q;
    }
