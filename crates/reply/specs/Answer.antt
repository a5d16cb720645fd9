-- 01, "Screen program": the values that are printed, from the bytes of the input alone.
use Rattle.std.specs.Prelude.{ℕ, ◌+◌, ◌*◌, cond, List, eqb, length, drop, Result, Ok, Err}
use Rattle.board.specs.Board.{fresh}
use Rattle.board.specs.Screen.{packed}
use Rattle.load.specs.Load.{most_byte, shown, load_answer}
use Rattle.locate.specs.Locate.{found_in}
use Rattle.refusal.specs.declared.Refusal.{Refusal}
use Rattle.refusal.specs.Refusal.{number}
use Rattle.header.specs.declared.Sides.{Sides}
use Rattle.header.specs.Header.{sides_line, most_shown, header_of}
use Rattle.reply.specs.Values.{located, alone}

-- what the program narrows by
abbrev pub factor : ℕ
factor = 3

-- of a screen with these sides and pixels: it is loaded, into planes of its size, and located; where loading refused, its answer alone
unfoldable pub values_of : ℕ → ℕ → List ℕ → List ℕ
unfolding load_answer
values_of h w pixels =
    let answer = load_answer h w (length pixels) (3 * (h * w)) in
    cond (eqb answer 0) (located (found_in (fresh h w) factor (packed (shown most_byte h w pixels)))) (alone answer)

-- where the first two lines say this: the pixels stand behind them, and a refusal is printed alone
unfoldable pub values_for : List ℕ → Result Sides Refusal → List ℕ
unfolding values_of
values_for bytes (Ok s) = values_of s.height s.width (drop s.at bytes)
values_for bytes (Err r) = alone (number r)

-- for the bytes of the input
unfoldable pub answer_to : List ℕ → List ℕ
unfolding header_of values_for
answer_to bytes = values_for bytes (header_of bytes)

-- bytes that are enough of any input: the first line, the longest second one, and the pixels of the largest screen
abbrev pub room : ℕ
room = length sides_line + 10 + 4 * (most_shown * most_shown)
