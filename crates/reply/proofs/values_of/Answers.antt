-- `reply::values_of` meets its contract: planes of 3 h w values hold what is loaded, and locating's checks pass on them.
use Rattle.std.proofs.Common.{refl, sym, ◌∙◌, arith, rules}
use Rattle.refusal.proofs.Numbers.{number_some}
use Rattle.reply.proofs.Locating.{area}
use Rattle.reply.proofs.Printed.{size, refused, inside, lent_length, lent_fit, prints}
use Rattle.reply.proofs.values_of.Goals as goal

pub returns-in-Err : goal.returns-in-Err
returns-in-Err c =
    let some = number_some c.in-Err.refusal in
    rw c.from.ensures at c.alone.ensures ∙ refused c.in-Err.ensures (size c.requires.0 c.requires.1) (λ z. omega (arith, some, z))

pub locate_shown-requires : goal.locate_shown-requires
locate_shown-requires c =
    lent_fit c.in-Ok.ensures (size c.requires.0 c.requires.1) refl _ (λ k. omega (arith, c.shared_slice_known-1.given k)) c.requires.0
    c.requires.1

pub returns-in-Ok : goal.returns-in-Ok
returns-in-Ok c =
    c.located.ensures ∙ prints c.in-Ok.ensures (size c.requires.0 c.requires.1) refl _ c.locate_shown.ensures
