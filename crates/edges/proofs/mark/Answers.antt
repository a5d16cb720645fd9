use Rattle.std.proofs.Common.{◌≡◌, ◌∙◌, Bool, true, false, get_or, refl, sym, ap, arith}
use Rattle.std.proofs.lemmas.Float.{T_from_true}
use Rattle.std.specs.Float.{nan}
use Rattle.std.specs.Float.Ieee.{le}
use Rattle.std.specs.Int.{from_bool}
use Rattle.lists.specs.Picture.{bit}
use Rattle.lists.proofs.Front.{front_more}
use Rattle.binary32.proofs.Plain.{bits_plain, plain_number, plain_order}
use Rattle.edges.proofs.mark.Goals as goal

pub float_to_bits-bits : goal.float_to_bits-bits
float_to_bits-bits c = plain_number _ (bits_plain _ (T_from_true _ c.well_formed.0.1) c.requires.by_bits.1)

pub float_to_bits-x : goal.float_to_bits-x
float_to_bits-x c =
    let k = c.loop-k.k in
    plain_number _ (bits_plain _ (c.type_inv.g k) (c.requires.by_bits.0 k (omega arith)))

-- the number of a bool
bit_of : (b : Bool) → from_bool b ≡ bit b
bit_of true = refl
bit_of false = refl

pub loop-k-preserved : goal.loop-k-preserved
loop-k-preserved c =
    let a = c.args in
    let k = c.loop-k.k in
    let plain = c.requires.by_bits in
    let th = bits_plain _ (T_from_true _ c.well_formed.0.1) plain.1 in
    let x = bits_plain _ (c.type_inv.g k) (plain.0 k (omega arith)) in
    let is = c.from.ensures ∙ bit_of _ ∙ ap bit (sym (plain_order th x)) in
    front_more (λ k. bit (le a.th (get_or a.g.now k nan))) _ c.loop-k.invariant (omega arith) is
