-- Numbers and lines in bytes of ASCII: 10 a line feed, 32 a space, 48 to 57 the digits.
use Rattle.std.specs.Prelude.{ℕ, zero, suc, ◌+◌, ◌/◌, ◌%◌, cond, List, [], ◌∷◌, ◌++◌, ltb}

-- the decimal digits of a number that has at most so many
abbrev pub digits_of : ℕ → ℕ → List ℕ
digits_of zero n = []
digits_of (suc most) n = cond (ltb n 10) [] (digits_of most (n / 10)) ++ ((48 + n % 10) ∷ [])

-- a number of 64 bits has at most 20
unfoldable pub decimal : ℕ → List ℕ
decimal n = digits_of 20 n

-- numbers, each with a space before it
abbrev pub following : List ℕ → List ℕ
following [] = []
following (n ∷ ns) = (32 ∷ decimal n) ++ following ns

-- numbers with one space between them
abbrev pub spaced : List ℕ → List ℕ
spaced [] = []
spaced (n ∷ ns) = decimal n ++ following ns

-- and a line feed behind them
abbrev pub numbers_line : List ℕ → List ℕ
numbers_line ns = spaced ns ++ (10 ∷ [])
