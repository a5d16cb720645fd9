-- 01, "Screen program": the first two lines of the input. Bytes are ASCII: 10 a line feed, 32 a space, 48 to 57 the digits.
use Rattle.std.specs.Prelude.{ℕ, zero, suc, ◌+◌, ◌-◌, ◌*◌, Bool, true, false, cond, ◌&&◌, List, [], ◌∷◌, eqb, leb, ltb, get_or, drop}
use Rattle.std.specs.Prelude.{Result, Ok, Err}
use Rattle.board.specs.Board.{least_side}
use Rattle.refusal.specs.declared.Refusal.{Refusal}
use Rattle.refusal.specs.declared.Refusal.TheVariants.{BadSide, BadNumber}
use Rattle.header.specs.declared.Sides.{Sides}

-- "height width" and a line feed
abbrev pub sides_line : List ℕ
sides_line = 104 ∷ 101 ∷ 105 ∷ 103 ∷ 104 ∷ 116 ∷ 32 ∷ 119 ∷ 105 ∷ 100 ∷ 116 ∷ 104 ∷ 10 ∷ []

abbrev pub begins : List ℕ → List ℕ → Bool
begins [] bytes = true
begins (x ∷ line) [] = false
begins (x ∷ line) (b ∷ bytes) = eqb x b && begins line bytes

unfoldable pub is_digit : ℕ → Bool
is_digit b = leb 48 b && leb b 57

-- how many digits a list begins with
abbrev pub digit_count : List ℕ → ℕ
digit_count [] = 0
digit_count (b ∷ bytes) = cond (is_digit b) (suc (digit_count bytes)) 0

-- the first place from `from` on that has no digit
unfoldable pub digits_end : List ℕ → ℕ → ℕ
unfolding is_digit
digits_end bytes from = from + digit_count (drop from bytes)

-- the places from `from` to `end` are one to four, and the byte behind them is the mark
unfoldable pub four_at_most : List ℕ → ℕ → ℕ → ℕ → Bool
four_at_most bytes from end mark = ltb from end && (leb end (from + 4) && eqb (get_or bytes end 0) mark)

-- the number written in n bytes from `from` on, behind digits that make `high`
abbrev pub value_at : List ℕ → ℕ → ℕ → ℕ → ℕ
value_at bytes from zero high = high
value_at bytes from (suc n) high = value_at bytes (suc from) n (10 * high + (get_or bytes from 0 - 48))

-- the largest side of the program
abbrev pub most_shown : ℕ
most_shown = 64

abbrev pub shown_side : ℕ → Bool
shown_side side = leb least_side side && leb side most_shown

-- sides outside their limits are refused with 1, BadSide; `at` is where the pixels begin
unfoldable pub sized : ℕ → ℕ → ℕ → Result Sides Refusal
sized h w at = cond (shown_side h && shown_side w) (Ok (record { height = h; width = w; at = at })) (Err BadSide)

-- two numbers from `from` on, a space between them and a line feed behind; anything else is refused with 11, BadNumber
unfoldable pub numbers_at : List ℕ → ℕ → Result Sides Refusal
unfolding digits_end four_at_most sized
numbers_at bytes from =
    let space = digits_end bytes from in
    let feed = digits_end bytes (space + 1) in
    cond (four_at_most bytes from space 32)
    (cond (four_at_most bytes (space + 1) feed 10)
    (sized (value_at bytes from (space - from) 0) (value_at bytes (space + 1) (feed - (space + 1)) 0) (feed + 1))
    (Err BadNumber))
    (Err BadNumber)

unfoldable pub header_of : List ℕ → Result Sides Refusal
unfolding numbers_at
header_of bytes = cond (begins sides_line bytes) (numbers_at bytes 13) (Err BadNumber)
