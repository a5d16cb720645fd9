use Rattle.std.proofs.Common.{◌≡◌, [], ◌∷◌, get_or, arith, rules}
use lib.ListN.{drop_of_length-le}
use Rattle.text.specs.Text.{decimal}
use Rattle.text.proofs.Decimal.{line_next, line_first}
use Rattle.text.proofs.Writing.{partly_more, partly_all, puts_join}
use Rattle.text.proofs.put_numbers.Goals as goal

pub loop-number-preserved : goal.loop-number-preserved
loop-number-preserved c =
    let others = c.in-Some.others.now in
    let k = c.loop-number.number-index in
    let p = rw (line_next others k (omega arith)) at c.loop-number.invariant.1 in
    (omega arith, partly_more (32 ∷ decimal (get_or others k 0)) p c.put_next-next.ensures)

pub returns : goal.returns
returns c =
    let others = c.in-Some.others.now in
    let numbers : c.args.numbers.now ≡ c.in-Some.first.now ∷ others = search rules in
    let p = rw (drop_of_length-le others {i = c.loop-number.number-index} (omega arith)) at c.loop-number.invariant.1 in
    let behind = partly_all (partly_more (10 ∷ []) p c.put_feed-2.ensures) in
    rw (numbers, line_first (c.in-Some.first.now ∷ others) (omega arith)) (puts_join c.put_number-next.ensures behind (omega (arith, p.room, c.put_number-next.ensures.placed.len)))
