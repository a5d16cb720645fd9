use Rattle.std.proofs.Common.{◌≡◌, ◌+◌, ◌-◌, arith}
use Rattle.select.proofs.Sifting.{sifting_none, sifting_more, sifting_all}
use Rattle.select.proofs.pass.Goals as goal

pub loop-k-init : goal.loop-k-init
loop-k-init c = λ l h.
    let s = c.args.s in
    let E = c.start.ensures in
    let none : s + 2 - (s + 2) ≡ 0 = omega arith in
    rw none (sifting_none (E.low l h) (E.high l h))

pub loop-k-preserved : goal.loop-k-preserved
loop-k-preserved c = λ l h.
    let s = c.args.s in
    let k = c.loop-k.k in
    let E = c.sift.ensures in
    let more : k + 1 - (s + 2) ≡ k - (s + 2) + 1 = omega arith in
    rw more
    (sifting_more k (omega arith) (c.loop-k.invariant l h) (E.low l h) (E.high l h) (E.here l h) (E.before l h) (E.behind l h))

pub returns : goal.returns
returns c = λ l h. sifting_all (omega arith) (c.loop-k.invariant l h)
