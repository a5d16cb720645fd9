-- `text::put_next` meets its contract: the space, then the number.
use native.Mathlib.Omega.{arith}
use Rattle.text.proofs.Writing.{puts_join}
use Rattle.text.proofs.put_next.Goals as goal

pub returns : goal.returns
returns c =
    let put = c in
    puts_join put.put-next.ensures c.put_number.ensures
    (omega (arith, put.requires, put.put-next.ensures.next_is))
