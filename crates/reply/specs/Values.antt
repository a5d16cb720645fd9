-- 01, "Screen program": the fourteen values that are printed, in the order of their names, and the two lines of the output.
use Rattle.std.specs.Prelude.{ℕ, ◌+◌, ◌*◌, List, [], ◌∷◌, ◌++◌, length, replicate}
use Rattle.locate.specs.declared.Located.{Located}
use Rattle.header.specs.Header.{sides_line}
use Rattle.text.specs.Text.{numbers_line}

-- "answer rows columns r1 c1 r0 c0 quarterr quarterc votesr votesc narrowed height width" and a line feed
abbrev pub names_line : List ℕ
names_line =
    97 ∷ 110 ∷ 115 ∷ 119 ∷ 101 ∷ 114 ∷ 32 ∷ 114 ∷ 111 ∷ 119 ∷ 115 ∷ 32 ∷ 99 ∷ 111 ∷ 108 ∷ 117 ∷ 109 ∷ 110 ∷ 115 ∷ 32 ∷ 114 ∷ 49 ∷ 32
    ∷ 99 ∷ 49 ∷ 32 ∷ 114 ∷ 48 ∷ 32 ∷ 99 ∷ 48 ∷ 32 ∷ 113 ∷ 117 ∷ 97 ∷ 114 ∷ 116 ∷ 101 ∷ 114 ∷ 114 ∷ 32 ∷ 113 ∷ 117 ∷ 97 ∷ 114 ∷ 116
    ∷ 101 ∷ 114 ∷ 99 ∷ 32 ∷ 118 ∷ 111 ∷ 116 ∷ 101 ∷ 115 ∷ 114 ∷ 32 ∷ 118 ∷ 111 ∷ 116 ∷ 101 ∷ 115 ∷ 99 ∷ 32 ∷ 110 ∷ 97 ∷ 114 ∷ 114
    ∷ 111 ∷ 119 ∷ 101 ∷ 100 ∷ 32 ∷ sides_line

-- of a located screen: rows is r, columns is c; the last two are the sides afterwards
abbrev pub located : Located → List ℕ
located l =
    l.answer ∷ l.board.r ∷ l.board.c ∷ l.board.r_1 ∷ l.board.c_1 ∷ l.board.r0 ∷ l.board.c0
    ∷ l.quarterr ∷ l.quarterc ∷ l.votesr ∷ l.votesc ∷ l.narrowed ∷ l.board.height ∷ l.board.width ∷ []

-- every value but the answer is 0
abbrev pub alone : ℕ → List ℕ
alone n = n ∷ replicate 13 0

-- the line of names and the line of values
unfoldable pub text_of : List ℕ → List ℕ
text_of values = names_line ++ numbers_line values

-- bytes that are enough for both: a value has at most 20 digits, and one byte behind it
abbrev pub text_room : ℕ
text_room = length names_line + 14 * 21
