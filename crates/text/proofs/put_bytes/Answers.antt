use Rattle.std.proofs.Common.{◌≡◌, arith, get_or, length, refl}
use lib.Seq.{take-length}
use Rattle.lists.proofs.Front.{placed_more}
use Rattle.lists.proofs.Part.{tab_take}
use Rattle.text.proofs.put_bytes.Goals as goal

pub loop-k-preserved : goal.loop-k-preserved
loop-k-preserved c =
    placed_more (λ m. get_or c.args.bytes.now m 0) c.loop-k.k c.loop-k.invariant (omega (arith, c.loop-k-test.true, c.requires)) refl

pub returns : goal.returns
returns c =
    let bytes = c.args.bytes.now in
    let e : c.loop-k.k ≡ length bytes = omega (arith, c.loop-k-test.false) in
    record { next_is = refl; placed = rw (e, tab_take (length bytes) bytes 0 (omega arith), take-length) at c.loop-k.invariant }
