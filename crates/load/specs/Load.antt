-- 01, "Load", and its refusals, over `top`, the largest number of a channel.
use Rattle.std.specs.Prelude.{ℕ, ◌+◌, ◌-◌, ◌*◌, ◌≡◌, cond, List, [], eqb, ltb, Float, length, get_or, Result, Ok, Err}
use Rattle.std.specs.Float.{binary32}
use Rattle.std.specs.Float.Ieee.{div}
use Rattle.lists.specs.Front.{AtFront}
use Rattle.binary32.specs.Binary32.{float}
use Rattle.board.specs.Board.{least_side, sides_outside, fresh, blank}
use Rattle.board.specs.Screen.{Screen, packed}
use Rattle.board.specs.declared.Board.{Board}
use Rattle.refusal.specs.declared.Refusal.{Refusal}
use Rattle.refusal.specs.Refusal.{number}
use Rattle.load.specs.declared.Loaded.{Loaded}

-- the largest byte
abbrev pub most_byte : ℕ
most_byte = 255

-- a number of a channel over the largest one
unfoldable pub level : ℕ → ℕ → Float
level top v = div binary32 (float v) (float top)

-- the screen that the pixels show: plane k takes number 2 − k of the four of a pixel; pixels lie rows first
abbrev pub shown : ℕ → ℕ → ℕ → List ℕ → Screen
shown top h w pixels = record { height = h; width = w; px = λ k i j. level top (get_or pixels (4 * (i * w + j) + (2 - k)) 0) }

-- the answer, for so many numbers of pixels and values of planes: the first check that fails
unfoldable pub load_answer : ℕ → ℕ → ℕ → ℕ → ℕ
unfolding sides_outside
load_answer h w pixels planes =
    cond (sides_outside least_side h w) 1 (cond (ltb pixels (4 * (h * w))) 2 (cond (ltb planes (3 * (h * w))) 3 0))

-- a record, or a refusal, as C has it
abbrev pub loaded_of : Result Board Refusal → Loaded
loaded_of (Ok b) = record { board = b; answer = 0 }
loaded_of (Err r) = record { board = blank; answer = number r }

-- what a call with these pixels answers, and what the planes hold before and after: on a refusal a record of zeros, and nothing is written
pub record LoadGives (top h w : ℕ) (pixels : List ℕ) (before : List Float) (r : Loaded) (after : List Float) : Type 0 where
  pub answer_is : r.answer ≡ load_answer h w (length pixels) (length before)
  pub board_is : r.board ≡ cond (eqb r.answer 0) (fresh h w) blank
  pub planes_are : AtFront (cond (eqb r.answer 0) (packed (shown top h w pixels)) []) before after
