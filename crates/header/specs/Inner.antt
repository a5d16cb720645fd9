-- For the code alone: one number with its mark. No contract of a public function reaches it.
use Rattle.std.specs.Prelude.{ℕ, ◌+◌, ◌-◌, cond, List, Result, Ok, Err}
use Rattle.refusal.specs.declared.Refusal.{Refusal}
use Rattle.refusal.specs.declared.Refusal.TheVariants.{BadNumber}
use Rattle.header.specs.declared.Numeral.{Numeral}
use Rattle.header.specs.declared.Sides.{Sides}
use Rattle.header.specs.Header.{digits_end, four_at_most, value_at}

-- one to four digits from `from` on with the mark behind them, and the place behind the mark
unfoldable pub number_at : List ℕ → ℕ → ℕ → Result Numeral Refusal
unfolding digits_end four_at_most
number_at bytes from mark =
    let end = digits_end bytes from in
    cond (four_at_most bytes from end mark)
    (Ok (record { value = value_at bytes from (end - from) 0; next = end + 1 }))
    (Err BadNumber)

-- what is made of a number, or why there is none
abbrev pub after : Result Numeral Refusal → (Numeral → Result Sides Refusal) → Result Sides Refusal
after (Ok n) made = made n
after (Err r) made = Err r
