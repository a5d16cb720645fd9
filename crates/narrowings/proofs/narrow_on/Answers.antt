-- Each turn is one of the definition, from a look at the screen that it begins with to a look at the narrowed one.
use Rattle.std.proofs.Common.{sym, ◌∙◌, arith}
use Rattle.narrowings.proofs.Turns.{here_first, here_ordered, here_next, here_falls, here_small, here_on, here_end}
use Rattle.narrowings.proofs.narrow_on.Goals as goal

pub loop-factor-init : goal.loop-factor-init
loop-factor-init c = let r = c.requires in here_first r.fit r.first.0 r.first.1 r.looks

pub is_thin-requires : goal.is_thin-requires
is_thin-requires c = here_ordered c.args.factor.in_range c.loop-factor.invariant

pub look-last-requires : goal.look-last-requires
look-last-requires c =
    let next = here_next c.args.factor.in_range c.loop-factor.invariant in
    (rw c.narrow.ensures.planes_after next.0, omega (arith, next.1))

pub returns-then-last : goal.returns-then-last
returns-then-last c =
    let t = c.look-last.ensures in
    here_small c.args.factor.in_range c.loop-factor.invariant (sym c.is_thin.ensures ∙ c.loop-factor-test.true)
    c.narrow.ensures.planes_after t.sides t.too_small t.looks c.if-last.true

pub loop-factor-smaller : goal.loop-factor-smaller
loop-factor-smaller c = omega (arith, here_falls c.args.factor.in_range c.loop-factor.invariant, c.look-last.ensures.sides.0)

pub loop-factor-preserved : goal.loop-factor-preserved
loop-factor-preserved c =
    let t = c.look-last.ensures in
    here_on c.args.factor.in_range c.loop-factor.invariant (sym c.is_thin.ensures ∙ c.loop-factor-test.true)
    c.narrow.ensures.planes_after t.sides t.too_small t.looks c.if-last.false

pub returns : goal.returns
returns c = here_end c.args.factor.in_range c.loop-factor.invariant (sym c.is_thin.ensures ∙ c.loop-factor-test.false)
