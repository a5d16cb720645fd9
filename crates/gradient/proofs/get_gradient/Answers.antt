use Rattle.std.proofs.Common.{◌≡◌, Err, refl, arith, rules}
use Rattle.refusal.specs.Refusal.{number}
use Rattle.refusal.proofs.Numbers.{number_some}
use Rattle.gradient.proofs.Answers.{fit, refused, worked}
use Rattle.gradient.proofs.get_gradient.Goals as goal

pub returns-in_err-check_planes : goal.returns-in_err-check_planes
returns-in_err-check_planes c =
    let refusal = c.in_err-check_planes.field-0.0 in
    let is : c.from_residual.result ≡ Err refusal = search rules in
    rw is
    (refused _ _ _ _ (number refusal) _ c.in_err-check_planes.ensures c.room_short-short.ensures
    (λ z. let some = number_some refusal in omega arith))

pub gradient_of-requires : goal.gradient_of-requires
gradient_of-requires c = fit _ _ _ _ 0 _ c.in_ok-check_planes.ensures c.room_short-short.ensures refl

pub returns : goal.returns
returns c = worked _ _ _ _ 0 _ c.in_ok-check_planes.ensures c.room_short-short.ensures _ refl c.gradient_of.ensures
