-- The numbers of the refusals: 01, "How each operation declines", and 02.
use Rattle.std.specs.Prelude.{ℕ, Result, Ok, Err}
use Rattle.refusal.specs.declared.Refusal.{Refusal}
use Rattle.refusal.specs.declared.Refusal.TheVariants as The

abbrev pub number : Refusal → ℕ
number The.BadSide = 1
number The.ShortPixels = 2
number The.ShortSlice = 3
number The.BadValue = 4
number The.TooSmall = 5
number The.ColumnsNoGap = 6
number The.ColumnsTooFar = 7
number The.RowsNoGap = 8
number The.RowsTooFar = 9
number The.BadPitch = 10
number The.BadNumber = 11
number The.Outside = 12
number The.BadFactor = 13
number The.NotOnBoard = 14
number The.TooWide = 15

-- 0 where the work was done
abbrev pub answer_of : {A : Type 0} → Result A Refusal → ℕ
answer_of (Ok _) = 0
answer_of (Err r) = number r

-- a result with the number of its error
abbrev pub numbered : {A E : Type 0} → (E → ℕ) → Result A E → Result A ℕ
numbered number_of (Ok x) = Ok x
numbered number_of (Err e) = Err (number_of e)
