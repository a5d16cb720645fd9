use Rattle.std.proofs.Common.{◌≡◌, ◌-◌, ◌/◌, length, arith, rules}
use Rattle.select.proofs.Passes.{left_none, left_more, left_all}
use Rattle.select.proofs.select.Goals as goal

pub loop-t-init : goal.loop-t-init
loop-t-init c = search (rules, left_none)

pub loop-t-preserved : goal.loop-t-preserved
loop-t-preserved c = λ l h. left_more (omega arith) (c.loop-t.invariant l h) (c.pass.ensures l h)

pub returns : goal.returns
returns c = λ l h.
    let all : c.loop-t.t ≡ (length c.args.x.now - 1) / 2 = omega arith in
    left_all c.requires (rw all at (c.loop-t.invariant l h))
