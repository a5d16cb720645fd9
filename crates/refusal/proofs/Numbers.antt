-- No refusal has the number 0. Assumes nothing.
use Rattle.std.proofs.Common.{ℕ, ◌<◌, ◌≡◌, arith}
use Rattle.refusal.specs.declared.Refusal.{Refusal}
use Rattle.refusal.specs.declared.Refusal.TheVariants as The
use Rattle.refusal.specs.Refusal.{number}

pub number_some : (r : Refusal) → 0 < number r
number_some The.BadSide = omega arith
number_some The.ShortPixels = omega arith
number_some The.ShortSlice = omega arith
number_some The.BadValue = omega arith
number_some The.TooSmall = omega arith
number_some The.ColumnsNoGap = omega arith
number_some The.ColumnsTooFar = omega arith
number_some The.RowsNoGap = omega arith
number_some The.RowsTooFar = omega arith
number_some The.BadPitch = omega arith
number_some The.BadNumber = omega arith
number_some The.Outside = omega arith
number_some The.BadFactor = omega arith
number_some The.NotOnBoard = omega arith
number_some The.TooWide = omega arith
