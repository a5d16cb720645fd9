use Rattle.std.proofs.Common.{arith}
use Rattle.votes.proofs.Row.{votes_few}
use Rattle.votes.proofs.Winner.{passed_more, winner_found}
use Rattle.votes.proofs.winner_of.Goals as goal

pub vote_lines-requires-clause-no_overflow : goal.vote_lines-requires-clause-no_overflow
vote_lines-requires-clause-no_overflow c o h =
    omega (arith, votes_few c.args.e c.args.lines.now c.loop-q.q c.requires.lines_in.2 o)

pub returns : goal.returns
returns c = winner_found c.args.e c.args.lines.now c.loop-q.invariant.picks (omega arith) (omega arith) (omega arith)

pub returns-2 : goal.returns-2
returns-2 c =
    let picks = passed_more c.loop-q.invariant.picks (omega arith) (omega arith) (λ o h. omega arith) c.vote_lines.ensures c.best_in_row-best.ensures in
    winner_found c.args.e c.args.lines.now picks (omega arith) (omega arith) (omega arith)
