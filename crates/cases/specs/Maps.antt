-- The worked cases of 02, R-6, the printed map, by the definitions that its contract cites. They hold together: proofs/Worked.
use Rattle.std.specs.Prelude.{ℕ, ◌+◌, ◌*◌, ◌/◌, ◌%◌, ◌≡◌, List, [], ◌∷◌, ◌++◌, Float, get_or, replicate}
use Rattle.std.specs.Float.{binary32}
use Rattle.std.specs.Float.Ieee.{of_bits}
use Rattle.lists.specs.Tab.{tab}
use Rattle.board.specs.declared.Board.{Board}
use Rattle.board.specs.Board.{fresh, resized, with_reading}
use Rattle.board.specs.Screen.{packed}
use Rattle.load.specs.Load.{most_byte, shown}
use Rattle.map.specs.Map.{map_text, map_answer}
use Rattle.cases.specs.Cases.{bounds, eight}

pub data MapCase : Type 0 where
  -- the text of a map of a record and the pixels of its screen
  mapped : Board → List ℕ → List ℕ → MapCase
  -- the answer to a map of a record and planes, with so many bytes of output
  printed : Board → List Float → ℕ → ℕ → MapCase

abbrev pub MapHolds : MapCase → Type 0
MapHolds (mapped b pixels text) = map_text b (packed (shown most_byte b.height b.width pixels)) ≡ text
MapHolds (printed b planes room answer) = map_answer b planes room ≡ answer

abbrev pub AllMaps : List MapCase → Type 0
AllMaps [] = Unit
AllMaps (c ∷ cs) = MapHolds c × AllMaps cs

-- a board of so many rows and columns in a picture of 16 by 64, with this r_1 and this pitch down; all else of the corner and the offsets
-- is 0, and the pitch across 8.0
abbrev pub chart_at : ℕ → Float → ℕ → ℕ → Board
chart_at top pitch rows columns =
    with_reading (fresh 16 64) (bounds top 0 0 0)
    (record { offset = 0; count = rows; pitch = pitch })
    (record { offset = 0; count = columns; pitch = eight })

-- corner 0, and pitches 8.0
abbrev pub chart : ℕ → ℕ → Board
chart rows columns = chart_at 0 eight rows columns

-- so many values 0.0, and -0.0
abbrev pub zeros : ℕ → List Float
zeros n = replicate n (of_bits binary32 0)

abbrev pub minus_zero : Float
minus_zero = of_bits binary32 0x80000000

-- the greens of its sixteen cells, and the bytes of its pixels: 10, the green and 200, and a byte that is ignored
abbrev pub greens : List ℕ
greens = 0 ∷ 42 ∷ 43 ∷ 84 ∷ 85 ∷ 127 ∷ 128 ∷ 212 ∷ 213 ∷ 255 ∷ 0 ∷ 0 ∷ 0 ∷ 0 ∷ 0 ∷ 0 ∷ []

abbrev pub chart_pixels : List ℕ
chart_pixels =
    tab (4 * (16 * 64)) (λ n. get_or (10 ∷ get_or greens (n / (4 * 64) / 8 * 8 + n / 4 % 64 / 8) 0 ∷ 200 ∷ 7 ∷ []) (n % 4) 0)

-- what a map must have, byte for byte: the line `rows columns`, and a line of marks with spaces behind it
abbrev pub heading : List ℕ
heading = 114 ∷ 111 ∷ 119 ∷ 115 ∷ 32 ∷ 99 ∷ 111 ∷ 108 ∷ 117 ∷ 109 ∷ 110 ∷ 115 ∷ 10 ∷ []

abbrev pub row : List ℕ → ℕ → List ℕ
row marks spaces = marks ++ replicate spaces 32 ++ (10 ∷ [])

-- those of R-6, the printed map
abbrev pub printed_maps : List MapCase
printed_maps =
    -- `2 8`, `..::ooOO`, `##......`
    mapped (chart 2 8) chart_pixels
    (heading ++ (50 ∷ 32 ∷ 56 ∷ 10 ∷ []) ++ row (46 ∷ 46 ∷ 58 ∷ 58 ∷ 111 ∷ 111 ∷ 79 ∷ 79 ∷ []) 72
    ++ row (35 ∷ 35 ∷ 46 ∷ 46 ∷ 46 ∷ 46 ∷ 46 ∷ 46 ∷ []) 72)
    -- with ten columns: `2 10`, `..::ooOO??`, `##......??`
    ∷ mapped (chart 2 10) chart_pixels
    (heading ++ (50 ∷ 32 ∷ 49 ∷ 48 ∷ 10 ∷ []) ++ row (46 ∷ 46 ∷ 58 ∷ 58 ∷ 111 ∷ 111 ∷ 79 ∷ 79 ∷ 63 ∷ 63 ∷ []) 70
    ++ row (35 ∷ 35 ∷ 46 ∷ 46 ∷ 46 ∷ 46 ∷ 46 ∷ 46 ∷ 63 ∷ 63 ∷ []) 70)
    -- no rows: `0 8`; no columns: `2 0` and two lines of 80 spaces
    ∷ mapped (chart 0 8) chart_pixels (heading ++ (48 ∷ 32 ∷ 56 ∷ 10 ∷ []))
    ∷ mapped (chart 2 0) chart_pixels (heading ++ (50 ∷ 32 ∷ 48 ∷ 10 ∷ []) ++ row [] 80 ++ row [] 80)
    -- each with 81 columns and no output: height 3, 1; planes one short, 3; the last value -0.0 and pitch 0.0, 4; pitch 0.0 and r_1 = 5000,
    -- 10; r_1 = 4097, 11; 4,097 rows, 15
    ∷ printed (resized (chart 2 81) 3 64) (zeros 3072) 0 1
    ∷ printed (chart 2 81) (zeros 3071) 0 3
    ∷ printed (chart_at 0 (of_bits binary32 0) 2 81) (zeros 3071 ++ (minus_zero ∷ [])) 0 4
    ∷ printed (chart_at 5000 (of_bits binary32 0) 2 81) (zeros 3072) 0 10
    ∷ printed (chart_at 4097 eight 2 81) (zeros 3072) 0 11
    ∷ printed (chart 4097 81) (zeros 3072) 0 15
    -- 80 columns and 4,097 rows, or 2^64 - 1, 11; of the first map 179 bytes are enough, and 178 are not
    ∷ printed (chart 4097 80) (zeros 3072) 0 11
    ∷ printed (chart 18446744073709551615 80) (zeros 3072) 0 11
    ∷ printed (chart 2 8) (zeros 3072) 179 0
    ∷ printed (chart 2 8) (zeros 3072) 178 3
    ∷ []
