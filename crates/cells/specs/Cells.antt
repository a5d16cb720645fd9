-- Sampling every cell of a board, which neither 01 nor 02 has: each cell is what sampling it alone gives (01, "Cell sampling", 02, R-2
-- and R-5).
use Rattle.std.specs.Prelude.{ℕ, ◌+◌, ◌*◌, ◌≤◌, ◌<◌, ◌≡◌, Bool, cond, ◌||◌, List, [], eqb, ltb, Float, length, get_or}
use Rattle.std.specs.List.{list_all}
use Rattle.std.specs.Float.{nan}
use Rattle.lists.specs.Front.{AtFront}
use Rattle.lists.specs.Tab.{grid}
use Rattle.lists.specs.Turn.{in_turn}
use Rattle.board.specs.declared.Board.{Board}
use Rattle.board.specs.Board.{most_size}
use Rattle.sample.specs.Sample.{most_number, in_picture, cell, sample_answer}
use Rattle.sample.specs.Fit.{fit_answer}

-- the cells of a board one after another, rows first
unfoldable pub cells : Board → List Float → ℕ → List Float
cells b planes size = in_turn (grid b.r b.c (λ x y. cell b planes x y size))

-- all places of all cells are in the picture
unfoldable pub all_in_picture : Board → ℕ → Bool
all_in_picture b size = list_all (λ within. within) (grid b.r b.c (λ x y. in_picture b x y size))

-- ---- the call, and its refusals

-- a count of the board is above 4,096, or the size above its limit
unfoldable pub board_numbers_above : Board → ℕ → Bool
board_numbers_above b size = ltb most_number b.r || ltb most_number b.c || ltb most_size size

-- where record and planes are fit for sampling, for `room` entries of output
unfoldable pub cells_answer : Board → ℕ → ℕ → ℕ
unfolding board_numbers_above all_in_picture
cells_answer b size room =
    cond (board_numbers_above b size) 11 (cond (ltb room (b.r * b.c * (3 * (size * size)))) 3 (cond (all_in_picture b size) 0 12))

-- on any record and planes: what sampling decides from these alone is first
unfoldable pub board_answer : Board → List Float → ℕ → ℕ → ℕ
unfolding fit_answer cells_answer
board_answer b planes size room =
    let a = fit_answer b planes in
    cond (eqb a 0) (cells_answer b size room) a

-- what a call answers, and what the output holds after it: the cells at its front; on a refusal nothing is written
pub record BoardGives (b : Board) (planes : List Float) (size : ℕ) (before : List Float) (answer : ℕ) (after : List Float)
    : Type 0 where
  pub answer_is : answer ≡ board_answer b planes size (length before)
  pub out_is : AtFront (cond (eqb answer 0) (cells b planes size) []) before after

-- ---- what is true of every board

-- of a board that is sampled, each cell by itself is sampled too, and its values stand at their place among the board's; where record and
-- planes are fit and a board answers 12, one of its cells does. Record and planes that are not fit are refused as sampling any cell
-- refuses them.
pub record CellsAreSamples (b : Board) (planes : List Float) (size room : ℕ) : Type 0 where
  pub sampled : board_answer b planes size room ≡ 0 → (x y values : ℕ) → x < b.r → y < b.c → 3 * (size * size) ≤ values
      → sample_answer b planes x y size values ≡ 0
  pub values_are : (x y k : ℕ) → x < b.r → y < b.c → k < 3 * (size * size)
      → get_or (cells b planes size) ((x * b.c + y) * (3 * (size * size)) + k) nan ≡ get_or (cell b planes x y size) k nan
  pub length_is : length (cells b planes size) ≡ b.r * b.c * (3 * (size * size))
  pub outside : fit_answer b planes ≡ 0 → board_answer b planes size room ≡ 12
      → (x : ℕ) × (y : ℕ) × (x < b.r) × (y < b.c) × (sample_answer b planes x y size (3 * (size * size)) ≡ 12)
  pub refused : (x y values : ℕ) → (fit_answer b planes ≡ 0 → ⊥) → board_answer b planes size room ≡ sample_answer b planes x y size values
