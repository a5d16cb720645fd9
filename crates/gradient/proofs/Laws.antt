-- What callers know of the gradients: how many there are, that they take no more room than a plane, and that
-- each is a plain value where the planes hold units. Assumes nothing.
use Prim.Native.Nat.{ℕ, ◌+◌, ◌-◌, ◌*◌, ◌/◌, ◌%◌, ◌≤◌, ◌<◌}
use mathlib.Core.Path.{◌≡◌}
use mathlib.Core.List.{List}
use native.Mathlib.Nat.{mul-le-mul}
use native.Mathlib.Omega.{arith}
use lib.Ieee.{Float, nan, binary32}
use lib.Ieee.Fits.{add-fits}
use lib.ListN.{length, get_or}
use Rattle.lists.proofs.Tab.{get_or_tab, length_tab_from}
use Rattle.lists.proofs.Grid.{row_column}
use Rattle.binary32.specs.Binary32.{magnitude}
use Rattle.binary32.proofs.Plain.{Plain, plain_of, plain_magnitude, plain_larger}
use Rattle.board.specs.Board.{least_plane_side}
use Rattle.board.specs.Inner.{FitPlanes}
use Rattle.board.specs.Screen.{view}
use Rattle.gradient.specs.Gradient.{row_sum, steeper, gradient_at, gradients}
use Rattle.gradient.specs.Inner.{square, UnitsTo}
use Rattle.gradient.proofs.Squares.{square_number, square_in, steeper_is, gradient_at_is}
use Rattle.gradient.proofs.Units.{units_to}

pub inner_le : (h w : ℕ) → (h - 2) * (w - 2) ≤ h * w
inner_le h w = mul-le-mul (omega arith) (omega arith)

pub length_gradients : (h w : ℕ) (p : List Float) → length (gradients h w p) ≡ (h - 2) * (w - 2)
length_gradients h w p = length_tab_from 0 ((h - 2) * (w - 2)) _

module _ (p : List Float) where
  slope_plain : (at down right : ℕ) → UnitsTo p (at + (2 * down + 2 * right)) → Plain (magnitude (row_sum (square p at down right) 0 0))
  unfolding row_sum
  slope_plain at down right u = plain_magnitude _ (square_number p at down right u) (add-fits binary32 _ _)

  steeper_plain : (at w : ℕ) (best : Float) → UnitsTo p (at + (2 * w + 2)) → Plain best → Plain (steeper (square p at w 1) 0 0 best)
  steeper_plain at w best u b =
      rw (steeper_is p at w 1 best)
      (plain_larger (plain_larger b (slope_plain at w 1 (λ k l. u k (omega arith)))) (slope_plain at 1 w (λ k l. u k (omega arith))))

  module _ (h w : ℕ) (fit : FitPlanes least_plane_side h w p) where
    point_plain : (i j : ℕ) → i < h - 2 → j < w - 2 → Plain (gradient_at (view h w p).px i j)
    point_plain i j a b =
        let turn : (k : ℕ) (best : Float) → k < 3 → Plain best → Plain (steeper (square p (k * (h * w) + (i * w + j)) w 1) 0 0 best) =
        λ k best l. steeper_plain (k * (h * w) + (i * w + j)) w best (units_to p (3 * (h * w)) _ fit.there fit.units (square_in h w k i j fit.sides l a b)) in
        rw (gradient_at_is h w p i j)
        (turn 2 _ (omega arith) (turn 1 _ (omega arith) (turn 0 _ (omega arith) (plain_of 0 (omega arith)))))

    pub gradients_plain : (k : ℕ) → k < (h - 2) * (w - 2) → Plain (get_or (gradients h w p) k nan)
    gradients_plain k b =
        let at = row_column (h - 2) (w - 2) k b in
        rw (get_or_tab ((h - 2) * (w - 2)) k _ nan b)
        (point_plain (k / (w - 2)) (k % (w - 2)) at.0 at.1)
