-- 02, R-6: the printed map and its refusals. Text is bytes of ASCII: 10 a line feed, 32 a space.
use Rattle.std.specs.Prelude.{ℕ, ◌+◌, ◌-◌, ◌*◌, ◌≤◌, ◌<◌, ◌≡◌, true, cond, ◌&&◌}
use Rattle.std.specs.Prelude.{List, [], ◌∷◌, ◌++◌, T, eqb, leb, ltb, Float, length, get_or, replicate, Result, Ok, Err}
use Rattle.std.specs.Float.{nan, binary32}
use Rattle.std.specs.Float.Ieee.{add, mul, of_bits, fits}
use Rattle.binary32.specs.Binary32.{unit, trunc}
use Rattle.lists.specs.Front.{AtFront}
use Rattle.lists.specs.Tab.{tab}
use Rattle.lists.specs.Turn.{in_turn}
use Rattle.text.specs.Text.{numbers_line}
use Rattle.board.specs.declared.Board.{Board}
use Rattle.board.specs.Screen.{view}
use Rattle.refusal.specs.declared.Refusal.{Refusal}
use Rattle.refusal.specs.Refusal.{number}
use Rattle.load.specs.declared.Loaded.{Loaded}
use Rattle.load.specs.Load.{most_byte, LoadGives}
use Rattle.sample.specs.Sample.{row_at, column_at, cell, sample_answer}
use Rattle.sample.specs.Fit.{fit_answer}
use Rattle.map.specs.declared.Printed.{Printed}

-- 80: the characters of a board row, and the most board columns
abbrev pub line_width : ℕ
line_width = 80

-- 4,096: the most board rows
abbrev pub most_rows : ℕ
most_rows = 4096

-- ---- a cell's mark

-- the level of a plane value: trunc(255.0·v + 0.5), two roundings. 255.0 and 0.5 stand by their bits.
unfoldable pub green_level : Float → ℕ
green_level v = trunc (add binary32 (mul binary32 (of_bits binary32 0x437F0000) v) (of_bits binary32 0x3F000000))

-- level 0 to 42 is `.`, 43 to 84 `:`, 85 to 127 `o`, 128 to 212 `O`, 213 to 255 `#`
abbrev pub mark_of : ℕ → ℕ
mark_of level = cond (leb level 42) 46 (cond (leb level 84) 58 (cond (leb level 127) 111 (cond (leb level 212) 79 35)))

-- the mark of a place: from the level of its value in plane 1, or `?` off the picture
unfoldable pub mark_at : Board → List Float → ℕ → ℕ → ℕ
unfolding green_level
mark_at b planes i j = cond (ltb i b.height && ltb j b.width) (mark_of (green_level ((view b.height b.width planes).px 1 i j))) 63

-- the mark of a cell is that of its sample at size 1
abbrev pub cell_mark : Board → List Float → ℕ → ℕ → ℕ
cell_mark b planes x y = mark_at b planes (row_at b x 1 0) (column_at b y 1 0)

-- ---- the text

-- `rows columns` and a line feed
abbrev pub names_line : List ℕ
names_line = 114 ∷ 111 ∷ 119 ∷ 115 ∷ 32 ∷ 99 ∷ 111 ∷ 108 ∷ 117 ∷ 109 ∷ 110 ∷ 115 ∷ 10 ∷ []

-- a board row: its marks, spaces at the right up to 80 characters, and a line feed
unfoldable pub row_line : Board → List Float → ℕ → List ℕ
row_line b planes x = tab b.c (cell_mark b planes x) ++ (replicate (line_width - b.c) 32 ++ (10 ∷ []))

-- the names, the two values, and the board rows
unfoldable pub map_text : Board → List Float → List ℕ
unfolding row_line
map_text b planes = names_line ++ (numbers_line (b.r ∷ b.c ∷ []) ++ in_turn (tab b.r (row_line b planes)))

-- ---- the call, and its refusals

-- where record and planes are fit for sampling, for `room` bytes of output
unfoldable pub print_answer : Board → List Float → ℕ → ℕ
unfolding map_text
print_answer b planes room =
    cond (ltb line_width b.c) 15 (cond (ltb most_rows b.r) 11 (cond (ltb room (length (map_text b planes))) 3 0))

-- on any record and planes
unfoldable pub map_answer : Board → List Float → ℕ → ℕ
unfolding fit_answer print_answer
map_answer b planes room =
    let a = fit_answer b planes in
    cond (eqb a 0) (print_answer b planes room) a

-- a text's length, or a refusal, as C has it
abbrev pub printed_of : Result ℕ Refusal → Printed
printed_of (Ok n) = record { answer = 0; length = n }
printed_of (Err r) = record { answer = number r; length = 0 }

-- what a call answers, the length that it hands back, and what the output holds after it: the text at its front; on a refusal the length
-- is 0, and nothing is written
pub record MapGives (b : Board) (planes : List Float) (before : List ℕ) (r : Printed) (after : List ℕ) : Type 0 where
  pub answer_is : r.answer ≡ map_answer b planes (length before)
  pub length_is : r.length ≡ cond (eqb r.answer 0) (length (map_text b planes)) 0
  pub out_is : AtFront (cond (eqb r.answer 0) (map_text b planes) []) before after

-- ---- what is true of every map

-- every level has a mark, by both of its ends
pub record MarksAre : Type 0 where
  pub dot : (n : ℕ) → n ≤ 42 → mark_of n ≡ 46
  pub colon : (n : ℕ) → 43 ≤ n → n ≤ 84 → mark_of n ≡ 58
  pub small_o : (n : ℕ) → 85 ≤ n → n ≤ 127 → mark_of n ≡ 111
  pub large_o : (n : ℕ) → 128 ≤ n → n ≤ 212 → mark_of n ≡ 79
  pub hash : (n : ℕ) → 213 ≤ n → n ≤ 255 → mark_of n ≡ 35

-- the level of every binary32 that planes may hold is at most 255
pub record LevelFits (v : Float) : Type 0 where
  pub level_fits : T (fits binary32 v) → unit v ≡ true → green_level v ≤ 255

-- in the planes of a screen that was loaded from bytes the level is the pixel's byte 1
pub record LevelIsByte (h w : ℕ) (pixels : List ℕ) (before : List Float) (r : Loaded) (after : List Float) : Type 0 where
  pub level_is : LoadGives most_byte h w pixels before r after → r.answer ≡ 0 → ((k : ℕ) → get_or pixels k 0 ≤ most_byte)
      → (i j : ℕ) → i < h → j < w → green_level ((view h w after).px 1 i j) ≡ get_or pixels (4 * (i * w + j) + 1) 0

-- a map that is printed shows what sampling gives: each of its cells answers 0 or, where it prints `?`, 12, and of a cell that is sampled
-- the mark is that of the level of its plane 1. Record and planes that are not fit are refused as sampling refuses them, whatever cell and
-- size are asked for.
pub record MarkIsSample (b : Board) (planes : List Float) (room x y : ℕ) : Type 0 where
  pub sampled : map_answer b planes room ≡ 0 → x < b.r → y < b.c
      → sample_answer b planes x y 1 3 ≡ cond (eqb (cell_mark b planes x y) 63) 12 0
  pub mark_is : sample_answer b planes x y 1 3 ≡ 0
      → cell_mark b planes x y ≡ mark_of (green_level (get_or (cell b planes x y 1) 1 nan))
  pub refused : (size values : ℕ) → (fit_answer b planes ≡ 0 → ⊥) → map_answer b planes room ≡ sample_answer b planes x y size values

-- the bytes of the longest text
abbrev pub most_map_bytes : ℕ
most_map_bytes = 331797

-- a map always fits so many bytes: a call that prints writes no more, and so long an output gets the answer that any longer one gets
pub record MapFits (b : Board) (planes : List Float) : Type 0 where
  pub bytes_fit : (room : ℕ) → map_answer b planes room ≡ 0 → length (map_text b planes) ≤ most_map_bytes
  pub room_enough : (room : ℕ) → most_map_bytes ≤ room → map_answer b planes room ≡ map_answer b planes most_map_bytes
