use Rattle.std.proofs.Common.{◌∙◌, ap, arith}
use Rattle.std.specs.Float.{binary32}
use Rattle.std.specs.Float.Ieee.{of_bits}
use Rattle.std.proofs.lemmas.Float.{T_from_true}
use Rattle.binary32.proofs.Plain.{bits_plain, plain_number, larger_by_bits, bits_number, bits_back}
use Rattle.binary32.proofs.larger_plain.Goals as goal

pub float_to_bits-a : goal.float_to_bits-a
float_to_bits-a c = plain_number c.args.a (bits_plain c.args.a (T_from_true _ c.well_formed.0.1) c.requires.0)

pub float_to_bits-b : goal.float_to_bits-b
float_to_bits-b c = plain_number c.args.b (bits_plain c.args.b (T_from_true _ c.well_formed.1.0.1) c.requires.1)

pub float_from_bits-result : goal.float_from_bits-result
float_from_bits-result c = rw (bits_number c.max.result (omega arith)) tt

pub returns-clause-is : goal.returns-clause-is
returns-clause-is c =
    ap (of_bits binary32) c.max.ensures
    ∙ larger_by_bits
    (bits_plain c.args.a (T_from_true _ c.well_formed.0.1) c.requires.0)
    (bits_plain c.args.b (T_from_true _ c.well_formed.1.0.1) c.requires.1)

pub returns-clause-plain : goal.returns-clause-plain
returns-clause-plain c = omega (arith, bits_back c.max.result (omega arith))
