-- The fourteen worked cases of 01, and those of requests of 02, by the definitions that the contracts cite. They hold together:
-- proofs/Worked.
use Rattle.std.specs.Prelude.{ℕ, ◌*◌, ◌≡◌, Bool, true, false, cond, ◌||◌, List, [], ◌∷◌, eqb, Float, length, replicate, Result, Ok, Err}
use Rattle.std.specs.Float.{binary32}
use Rattle.std.specs.Float.Ieee.{of_bits}
use Rattle.lists.specs.Tab.{tab_from, tab}
use Rattle.lists.specs.Picture.{flip}
use Rattle.board.specs.declared.Board.{Board}
use Rattle.board.specs.declared.Bounds.{Bounds}
use Rattle.board.specs.declared.Spacing.{Spacing}
use Rattle.board.specs.Board.{fresh, with_reading}
use Rattle.bounds.specs.Bounds.{bounds_of}
use Rattle.lanes.specs.Score.{Place, at, score}
use Rattle.strips.specs.Strip.{places, column_scores, row_scores}
use Rattle.lines.specs.Lines.{lines_of}
use Rattle.reading.specs.declared.Reading.{Reading}
use Rattle.reading.specs.Reading.{reading_of}
use Rattle.sample.specs.Sample.{row_at, on_board, cell_answer}

-- an edge picture: whether the point in a row and a column is set
abbrev pub Picture : Type 0
Picture = ℕ → ℕ → Bool

pub data Case : Type 0 where
  -- the bounds of a 10 by 10 picture
  bounded : Picture → Bounds → Case
  -- the score over 0 steps, of every picture and for every target lane
  still : ℕ → Case
  -- the score over so many steps down a strip of this picture, for every target lane
  scored_all : Picture → ℕ → ℕ → Case
  -- the same for one target lane
  scored : Picture → ℕ → ℕ → ℕ → Case
  -- the scored places of columns c_1 to c_2
  placed : ℕ → ℕ → List Place → Case
  -- the column scores over some bounds, which are the row scores of the flipped picture too
  listed : Picture → Bounds → List ℕ → Case
  -- what a list reads as
  read : List ℕ → Result (Reading Float) ℕ → Case
  -- the lines of a list, and what it reads as
  lined : List ℕ → List ℕ → Result (Reading Float) ℕ → Case
  -- the sampled rows of a record, a cell on its board and a size
  sampled : Board → ℕ → ℕ → ℕ → List ℕ → Case
  -- the answer to a record, a cell, a size and so many entries of output, where the planes are fit
  answered : Board → ℕ → ℕ → ℕ → ℕ → ℕ → Case

-- the scores over so many steps down a strip, for the target lanes 0 to 4
abbrev pub lane_scores : Picture → ℕ → List ℕ
lane_scores E steps = tab 5 (λ k. score E 0 steps (at 0 k))

abbrev pub bounds : ℕ → ℕ → ℕ → ℕ → Bounds
bounds r₁ r₂ c₁ c₂ = record { r_1 = r₁; r_2 = r₂; c_1 = c₁; c_2 = c₂ }

-- rows and columns exchanged
abbrev pub exchanged : Bounds → Bounds
exchanged b = bounds b.c_1 b.c_2 b.r_1 b.r_2

-- what a case says; a list has the scratch that it asks for
abbrev pub Holds : Case → Type 0
Holds (bounded E b) = bounds_of E 10 10 ≡ b
Holds (still s) = (E : Picture) → lane_scores E 0 ≡ replicate 5 s
Holds (scored_all E steps s) = lane_scores E steps ≡ replicate 5 s
Holds (scored E steps k s) = score E 0 steps (at 0 k) ≡ s
Holds (placed c₁ c₂ l) = places c₁ c₂ ≡ l
Holds (listed E b l) = (column_scores E b ≡ l) × (row_scores (flip E) (exchanged b) ≡ l)
Holds (read l r) = reading_of l (4 * length l) ≡ r
Holds (lined l lines r) = (lines_of l ≡ lines) × (reading_of l (4 * length l) ≡ r)
Holds (sampled b x y size rows) = (on_board b x y ≡ true) × (tab size (row_at b x size) ≡ rows)
Holds (answered b x y size room answer) = cell_answer b x y size room ≡ answer

abbrev pub All : List Case → Type 0
All [] = Unit
All (c ∷ cs) = Holds c × All cs

abbrev pub all_unset : Picture
all_unset i j = false

abbrev pub all_set : Picture
all_set i j = true

-- only one lane is set
abbrev pub only : ℕ → Picture
only lane i j = eqb j lane

abbrev pub member : ℕ → List ℕ → Bool
member i [] = false
member i (p ∷ ps) = eqb i p || member i ps

-- a list of n entries, zero but for tens at these places
abbrev pub tens : ℕ → List ℕ → List ℕ
tens n ps = tab n (λ i. cond (member i ps) 10 0)

-- the record of a board of one cell in a square picture: corner 0, no far corner, and the same offset and pitch along both axes
abbrev pub one_cell : ℕ → ℕ → Float → Board
one_cell side offset pitch =
    let axis : Spacing = record { offset = offset; count = 1; pitch = pitch } in
    with_reading (fresh side side) (bounds 0 0 0 0) axis axis

-- 8.0, 10.0, 9.0 and 200.0 by their bits
abbrev pub eight : Float
eight = of_bits binary32 0x41000000

-- a reading with this pitch, offset, count and votes
abbrev pub read_as : Float → ℕ → ℕ → ℕ → Result (Reading Float) ℕ
read_as pitch offset count votes = Ok (record { pitch = pitch; offset = offset; count = count; votes = votes })

abbrev pub ten : Float
ten = of_bits binary32 0x41200000

abbrev pub nine : Float
nine = of_bits binary32 0x41100000

abbrev pub two_hundred : Float
two_hundred = of_bits binary32 0x43480000

abbrev pub cases : List Case
cases =
    -- blank 10 by 10 E: bounds 5, 5, 5, 5; all set: 0, 9, 0, 9
    bounded all_unset (bounds 5 5 5 5)
    ∷ bounded all_set (bounds 0 9 0 9)
    -- strips: 0 steps, 0; 3 steps all unset, 0; 3 steps all set, 3; k = 2, only lane 3 set, 3 steps, 1; 2 steps, 0
    ∷ still 0
    ∷ scored_all all_unset 3 0
    ∷ scored_all all_set 3 3
    ∷ scored (only 3) 3 2 1
    ∷ scored (only 3) 2 2 0
    -- lists of 30, zero but for tens at: 3, 13, 23: pitch 10.0, offset 3, count 2, votes 3; 3, 12: 9.0, 3, 1, 2
    ∷ read (tens 30 (3 ∷ 13 ∷ 23 ∷ [])) (read_as ten 3 2 3)
    ∷ read (tens 30 (3 ∷ 12 ∷ [])) (read_as nine 3 1 2)
    -- 3, 11: lines 3 and 7, refusal 6; none: lines 6 to 22, refusal 6
    ∷ lined (tens 30 (3 ∷ 11 ∷ [])) (3 ∷ 7 ∷ []) (Err 6)
    ∷ lined (tens 30 []) (tab_from 6 17 (λ i. i)) (Err 6)
    -- lists of 300, tens at 3, 208: 200.0, 3, 1, 1; 3, 209: refusal 7
    ∷ read (tens 300 (3 ∷ 208 ∷ [])) (read_as two_hundred 3 1 1)
    ∷ read (tens 300 (3 ∷ 209 ∷ [])) (Err 7)
    -- sampling with corner 0, offset 3, pitch 10.0, x = 0, size 2: rows 5 and 10; r and c are 1 (02, R-5)
    ∷ sampled (one_cell 12 3 ten) 0 0 2 (5 ∷ 10 ∷ [])
    ∷ []

-- those of requests of 02
abbrev pub requested : List Case
requested =
    -- R-4, a score for the last place but one
    -- places of c_1 = 3, c_2 = 9: (3, 0), (3, 1), (3, 2), (4, 2), (5, 2), (5, 3), (5, 4)
    placed 3 9 (at 3 0 ∷ at 3 1 ∷ at 3 2 ∷ at 4 2 ∷ at 5 2 ∷ at 5 3 ∷ at 5 4 ∷ [])
    -- rows 0 to 3, columns 0 to 6, only column 4 set: 0 0 0 1 3 1 0
    ∷ listed (only 4) (bounds 0 3 0 6) (0 ∷ 0 ∷ 0 ∷ 1 ∷ 3 ∷ 1 ∷ 0 ∷ [])
    -- rows 0 to 3, columns 0 to 4, only column 2 set: 0 1 3 1 0
    ∷ listed (only 2) (bounds 0 3 0 4) (0 ∷ 1 ∷ 3 ∷ 1 ∷ 0 ∷ [])
    -- R-5, only cells on the board: in the sampling case of 01 the cell is sampled, and x = 1 or y = 1 answers 14
    ∷ answered (one_cell 12 3 ten) 0 0 2 12 0
    ∷ answered (one_cell 12 3 ten) 1 0 2 12 14
    ∷ answered (one_cell 12 3 ten) 0 1 2 12 14
    -- 20 by 20, pitches 8.0: (1, 0) with size 25, 11; with size 24 and no output, 14; (4097, 0), 11; (0, 0) with size 2 and 11 outputs, 3
    ∷ answered (one_cell 20 0 eight) 1 0 25 0 11
    ∷ answered (one_cell 20 0 eight) 1 0 24 0 14
    ∷ answered (one_cell 20 0 eight) 4097 0 2 12 11
    ∷ answered (one_cell 20 0 eight) 0 0 2 11 3
    -- at size 0 too
    ∷ answered (one_cell 20 0 eight) 1 1 0 0 14
    ∷ []
