-- 01, "Cell sampling", its refusals, and 02, R-2 and R-5. All operations are binary32, in the order written.
use Rattle.std.specs.Prelude.{ℕ, zero, suc, ◌*◌, ◌/◌, ◌%◌, ◌≤◌, ◌≡◌, Bool, true, false, not, cond, ◌&&◌, ◌||◌}
use Rattle.std.specs.Prelude.{List, [], eqb, ltb, Float, length}
use Rattle.std.specs.Float.{binary32}
use Rattle.std.specs.Float.Ieee.{le, add, mul, div, of_bits}
use Rattle.binary32.specs.Binary32.{float, trunc}
use Rattle.lists.specs.Front.{AtFront}
use Rattle.lists.specs.Tab.{grid}
use Rattle.board.specs.declared.Board.{Board}
use Rattle.board.specs.Board.{least_plane_side, most_size}
use Rattle.board.specs.Screen.{view}
use Rattle.board.specs.Planes.{planes_answer}

-- the row of point i of cell x: trunc(((corner + offset) + pitch·x) + ((pitch / 2.0) / size)·(2i + 1)); the column likewise.
-- 2.0 and 1.0 stand by their bits.
unfoldable pub sampled_at : ℕ → ℕ → Float → ℕ → ℕ → ℕ → ℕ
sampled_at corner offset pitch x size i =
    let start = add binary32 (add binary32 (float corner) (float offset)) (mul binary32 pitch (float x)) in
    let half = div binary32 (div binary32 pitch (of_bits binary32 0x40000000)) (float size) in
    let steps = add binary32 (mul binary32 (float i) (of_bits binary32 0x40000000)) (of_bits binary32 0x3F800000) in
    trunc (add binary32 start (mul binary32 half steps))

abbrev pub row_at : Board → ℕ → ℕ → ℕ → ℕ
row_at b x size i = sampled_at b.r_1 b.r0 b.pixelr x size i

abbrev pub column_at : Board → ℕ → ℕ → ℕ → ℕ
column_at b y size j = sampled_at b.c_1 b.c0 b.pixelc y size j

-- the values of a cell: planes one after another, each rows first
abbrev pub cell : Board → List Float → ℕ → ℕ → ℕ → List Float
cell b planes x y size =
    grid 3 (size * size) (λ k n. (view b.height b.width planes).px k (row_at b x size (n / size)) (column_at b y size (n % size)))

-- ---- the call, and its refusals

-- a pitch outside 8.0 to 200.0, or no number
unfoldable pub pitch_outside : Float → Bool
pitch_outside p = not (le (of_bits binary32 0x41000000) p && le p (of_bits binary32 0x43480000))

-- f 0 to f (n - 1) are below the limit
abbrev pub all_below : (ℕ → ℕ) → ℕ → ℕ → Bool
all_below f limit zero = true
all_below f limit (suc n) = all_below f limit n && ltb (f n) limit

-- all places of a cell are in the picture
abbrev pub in_picture : Board → ℕ → ℕ → ℕ → Bool
in_picture b x y size = all_below (row_at b x size) b.height size && all_below (column_at b y size) b.width size

-- 4,096: the most that a cell's numbers and a record's corner and offset may be
abbrev pub most_number : ℕ
most_number = 4096

-- the corner or the offset of a record is above 4,096
unfoldable pub corner_above : Board → Bool
corner_above b = ltb most_number b.r_1 || ltb most_number b.c_1 || ltb most_number b.r0 || ltb most_number b.c0

-- the answer to a record by itself: 10 a pitch, 11 its corner or its offset; 0 otherwise
unfoldable pub record_answer : Board → ℕ
unfolding pitch_outside corner_above
record_answer b = cond (pitch_outside b.pixelr || pitch_outside b.pixelc) 10 (cond (corner_above b) 11 0)

-- x or y is above 4,096, or the size above its limit
unfoldable pub numbers_above : ℕ → ℕ → ℕ → Bool
numbers_above x y size = ltb most_number x || ltb most_number y || ltb most_size size

-- 02, R-5: a cell is on the board if x < r and y < c
unfoldable pub on_board : Board → ℕ → ℕ → Bool
on_board b x y = ltb x b.r && ltb y b.c

-- the answer where the checks of the planes passed, for `room` entries of output
unfoldable pub cell_answer : Board → ℕ → ℕ → ℕ → ℕ → ℕ
unfolding record_answer numbers_above on_board sampled_at
cell_answer b x y size room =
    let a = record_answer b in
    cond (eqb a 0)
    (cond (numbers_above x y size) 11
    (cond (not (on_board b x y)) 14
    (cond (ltb room (3 * (size * size))) 3
    (cond (in_picture b x y size) 0 12))))
    a

-- the answer of a call, on any planes
unfoldable pub sample_answer : Board → List Float → ℕ → ℕ → ℕ → ℕ → ℕ
unfolding planes_answer cell_answer
sample_answer b planes x y size room =
    let a = planes_answer least_plane_side b.height b.width planes false in
    cond (eqb a 0) (cell_answer b x y size room) a

-- what a call answers, and what the output holds after it: the cell at its front; on a refusal nothing is written
pub record SampleGives (b : Board) (planes : List Float) (x y size : ℕ) (before : List Float) (answer : ℕ) (after : List Float)
    : Type 0 where
  pub answer_is : answer ≡ sample_answer b planes x y size (length before)
  pub out_is : AtFront (cond (eqb answer 0) (cell b planes x y size) []) before after

-- ---- the room that a cell takes

-- the values of the largest cell
abbrev pub most_cell_values : ℕ
most_cell_values = 1728

-- 02, R-2: a cell always fits so many values. A call that samples writes no more, and an output of so many entries gets the answer that
-- any longer one gets: it is never too short.
pub record CellFits (b : Board) (planes : List Float) (x y size : ℕ) : Type 0 where
  pub largest : most_cell_values ≡ 3 * (most_size * most_size)
  pub values_fit : (room : ℕ) → sample_answer b planes x y size room ≡ 0 → length (cell b planes x y size) ≤ most_cell_values
  pub room_enough : (room : ℕ) → most_cell_values ≤ room
      → sample_answer b planes x y size room ≡ sample_answer b planes x y size most_cell_values
