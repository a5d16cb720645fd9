use Rattle.std.proofs.lemmas.Float.{T_from_true}
use Rattle.binary32.specs.Binary32.{magnitude}
use Rattle.binary32.proofs.Values.{magnitude_is, magnitude_no_nan}
use Rattle.binary32.proofs.Plain.{plain_bits, plain_magnitude}
use Rattle.binary32.proofs.magnitude.Goals as goal

pub float_from_bits-result : goal.float_from_bits-result
float_from_bits-result c = magnitude_no_nan _ (T_from_true _ c.well_formed.0.1) c.requires

pub returns-clause-is : goal.returns-clause-is
returns-clause-is c = magnitude_is _ (T_from_true _ c.well_formed.0.1)

pub returns-clause-plain : goal.returns-clause-plain
returns-clause-plain c =
    rw (magnitude_is c.args.x (T_from_true _ c.well_formed.0.1))
    (plain_bits (magnitude c.args.x) (plain_magnitude c.args.x c.requires (T_from_true _ c.well_formed.0.1)))
