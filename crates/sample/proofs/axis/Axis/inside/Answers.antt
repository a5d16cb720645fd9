use Rattle.std.proofs.Common.{◌≤◌, ◌<◌, refl, arith, rules}
use borrow.Author.Tests.{tests}
use Rattle.std.proofs.lemmas.Iterator.{cases_from_all, YieldsList-from_range}
use Rattle.sample.specs.Sample.{sampled_at}
use Rattle.sample.proofs.Answers.{all_below_by}
use Rattle.sample.proofs.axis.Axis.inside.Goals as goal

pub returns : goal.returns
returns c =
    let a = c.args.self in
    let f = sampled_at a.corner a.offset a.pitch a.number a.size in
    let side = c.args.side in
    all_below_by f side a.size
    (cases_from_all _ _ _ (λ i. f i < side) (λ i. side ≤ f i) c.all.ensures.ran (YieldsList-from_range 0 a.size a.size refl (omega arith))
    (λ x q k. search (rules, tests))
    (λ x q k. search (rules, tests)))
