-- 01, "Gradient and threshold", first paragraph, and the gradient's refusals. All sums are binary32, rounded one operation at a time.
use Rattle.std.specs.Prelude.{ℕ, ◌+◌, ◌-◌, ◌*◌, cond, List, [], ◌≡◌, eqb, ltb, Float, length}
use Rattle.std.specs.Float.{binary32}
use Rattle.std.specs.Float.Ieee.{neg, add, sub, of_bits}
use Rattle.lists.specs.Front.{AtFront}
use Rattle.lists.specs.Tab.{grid}
use Rattle.lists.specs.Picture.{flip}
use Rattle.binary32.specs.Binary32.{magnitude, larger}
use Rattle.board.specs.Board.{least_plane_side}
use Rattle.board.specs.Planes.{planes_answer}
use Rattle.board.specs.Screen.{view}

-- −a − b − c + d + e + f, left to right
unfoldable pub difference : Float → Float → Float → Float → Float → Float → Float
difference a b c d e f = add binary32 (add binary32 (add binary32 (sub binary32 (sub binary32 (neg a) b) c) d) e) f

-- the sum at (i, j) of the plane a: the top row of the 3 by 3 square taken away, then its bottom row added
unfoldable pub row_sum : (ℕ → ℕ → Float) → ℕ → ℕ → Float
unfolding difference
row_sum a i j = difference (a i j) (a i (j + 1)) (a i (j + 2)) (a (i + 2) j) (a (i + 2) (j + 1)) (a (i + 2) (j + 2))

-- the same with the two indices of the square exchanged
abbrev pub column_sum : (ℕ → ℕ → Float) → ℕ → ℕ → Float
column_sum a i j = row_sum (flip a) j i

-- the larger of `best` and the two magnitudes of a plane
unfoldable pub steeper : (ℕ → ℕ → Float) → ℕ → ℕ → Float → Float
unfolding row_sum larger
steeper a i j best = larger (larger best (magnitude (row_sum a i j))) (magnitude (column_sum a i j))

-- the gradient at (i, j): the largest of the six magnitudes
unfoldable pub gradient_at : (ℕ → ℕ → ℕ → Float) → ℕ → ℕ → Float
unfolding steeper
gradient_at px i j = steeper (px 2) i j (steeper (px 1) i j (steeper (px 0) i j (of_bits binary32 0)))

-- the gradients of the planes of an h by w screen, rows first
abbrev pub gradients : ℕ → ℕ → List Float → List Float
gradients h w planes = grid (h - 2) (w - 2) (gradient_at (view h w planes).px)

-- what a call with these planes answers, and what the output holds before and after: the gradients at its front, on a refusal nothing new
pub record GradientGives (h w : ℕ) (planes before : List Float) (answer : ℕ) (after : List Float) : Type 0 where
  pub answer_is : answer ≡ planes_answer least_plane_side h w planes (ltb (length before) ((h - 2) * (w - 2)))
  pub out_is : AtFront (cond (eqb answer 0) (gradients h w planes) []) before after
