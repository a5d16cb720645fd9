use Prim.Native.Nat.{suc, ◌+◌, ◌-◌}
use mathlib.Core.Path.{◌≡◌, refl}
use native.Mathlib.Omega.{arith}
use borrow.Author.Rules.{rules}
use Rattle.text.proofs.Decimal.{decimal_last}
use Rattle.text.proofs.Writing.{puts_last}
use Rattle.text.proofs.put_number.Goals as goal

pub loop-k-init : goal.loop-k-init
loop-k-init c = (omega arith, refl, λ after p. rw (decimal_last (c.args.at + c.digits.result - c.args.at) c.args.n (omega arith)) at p)

pub loop-k-preserved : goal.loop-k-preserved
loop-k-preserved c =
    let at-loop = c.loop-k in
    let one : at-loop.k - c.args.at ≡ suc (at-loop.k - 1 - c.args.at) = omega arith in (
      omega arith,
      search rules,
      λ after p. at-loop.invariant.2 after (rw (one, ← c.digit.ensures) (puts_last _ p (omega arith) (omega arith))),
    )
