use Rattle.std.proofs.Common.{Float, T, not, is_nan, rules}
use Rattle.std.proofs.lemmas.Iterator.{cases_from_all, YieldsList-from_slice}
use Rattle.board.proofs.Sums.{searched}
use Rattle.board.proofs.values.are_numbers.Goals as goal

pub returns : goal.returns
returns c =
    searched c.args.values.now c.lane_sums.result _ c.requires (search rules) c.lane_sums.ensures
    (cases_from_all _ _ _ (λ (x : Float). T (not (is_nan x))) (λ (x : Float). T (is_nan x)) c.all.ensures.ran
    (YieldsList-from_slice c.lane_sums.result (cc))
    (λ x q k. search rules)
    (λ x q k. search rules))
