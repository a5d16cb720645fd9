-- The square of a point in a list of planes: its sums by the places of the list, and that they are numbers where the values are
-- units. Assumes nothing.
use Prim.Native.Nat.{ℕ, ◌+◌, ◌-◌, ◌*◌, ◌≤◌, ◌<◌}
use mathlib.Core.Path.{◌≡◌, ap, fun_ext, ◌∙◌}
use mathlib.Core.Bool.{true}
use mathlib.Core.List.{List}
use native.Mathlib.Nat.{add-zero, add-mul, mul-le-mul_right}
use native.Mathlib.Omega.{arith}
use lib.Arith.{digits_lt}
use lib.Ieee.{Float, nan, binary32, neg, of_bits}
use lib.ListN.{get_or}
use Rattle.lists.specs.Picture.{flip}
use Rattle.binary32.specs.Binary32.{unit, magnitude, larger}
use Rattle.binary32.proofs.Numbers.{Number, add_number, sub_number, finite_number, neg_finite, unit_finite}
use Rattle.board.specs.Board.{least_plane_side}
use Rattle.board.specs.Inner.{SidesIn}
use Rattle.board.specs.Screen.{view}
use Rattle.gradient.specs.Gradient.{difference, row_sum, steeper, gradient_at}
use Rattle.gradient.specs.Inner.{square, UnitsTo}

-- ---- where a square stands

row_moved : (a : ℕ → ℕ → Float) (i j : ℕ) → row_sum a i j ≡ row_sum (λ x y. a (i + x) (j + y)) 0 0
unfolding row_sum
row_moved a i j = simp add-zero

steeper_moved : (a : ℕ → ℕ → Float) (i j : ℕ) (best : Float) → steeper a i j best ≡ steeper (λ x y. a (i + x) (j + y)) 0 0 best
unfolding steeper
steeper_moved a i j best = rw (row_moved a i j, row_moved (flip a) j i)

-- the sum of the square at `at`, value by value
pub square_sum : (p : List Float) (at down right : ℕ)
    → let low = at + 2 * down in
    difference (get_or p at nan) (get_or p (at + right) nan) (get_or p (at + 2 * right) nan)
    (get_or p low nan) (get_or p (low + right) nan) (get_or p (low + 2 * right) nan)
    ≡ row_sum (square p at down right) 0 0
unfolding row_sum
square_sum p at down right =
    let a : at + (0 * down + 0 * right) ≡ at = omega arith in
    let b : at + (0 * down + 1 * right) ≡ at + right = omega arith in
    let c : at + (0 * down + 2 * right) ≡ at + 2 * right = omega arith in
    let d : at + (2 * down + 0 * right) ≡ at + 2 * down = omega arith in
    let e : at + (2 * down + 1 * right) ≡ at + 2 * down + right = omega arith in
    let f : at + (2 * down + 2 * right) ≡ at + 2 * down + 2 * right = omega arith in
    rw (a, b, c, d, e, f)

-- exchanging rows and columns exchanges the two steps
square_flip : (p : List Float) (at down right : ℕ) → flip (square p at down right) ≡ square p at right down
square_flip p at down right = fun_ext (λ i. fun_ext (λ j. ap (λ (k : ℕ). get_or p k nan) (omega arith)))

pub steeper_is : (p : List Float) (at down right : ℕ) (best : Float)
    → steeper (square p at down right) 0 0 best
    ≡ larger (larger best (magnitude (row_sum (square p at down right) 0 0))) (magnitude (row_sum (square p at right down) 0 0))
unfolding steeper
steeper_is p at down right best =
    let across = larger best (magnitude (row_sum (square p at down right) 0 0)) in
    ap (λ (a : ℕ → ℕ → Float). larger across (magnitude (row_sum a 0 0))) (square_flip p at down right)

plane_at : (h w : ℕ) (p : List Float) (i j k : ℕ) (best : Float)
    → steeper ((view h w p).px k) i j best ≡ steeper (square p (k * (h * w) + (i * w + j)) w 1) 0 0 best
plane_at h w p i j k best =
    steeper_moved ((view h w p).px k) i j best
    ∙ ap (λ (a : ℕ → ℕ → Float). steeper a 0 0 best)
    (fun_ext (λ x. fun_ext (λ y. ap (λ (n : ℕ). get_or p n nan) (omega (arith, add-mul i x w)))))

-- the gradient, plane after plane
pub gradient_at_is : (h w : ℕ) (p : List Float) (i j : ℕ)
    → let turn = λ (k : ℕ) (best : Float). steeper (square p (k * (h * w) + (i * w + j)) w 1) 0 0 best in
    gradient_at (view h w p).px i j ≡ turn 2 (turn 1 (turn 0 (of_bits binary32 0)))
unfolding gradient_at
gradient_at_is h w p i j =
    let on = plane_at h w p i j in
    ap (λ (best : Float). steeper ((view h w p).px 2) i j (steeper ((view h w p).px 1) i j best)) (on 0 _)
    ∙ ap (λ (best : Float). steeper ((view h w p).px 2) i j best) (on 1 _)
    ∙ on 2 _

-- the square at (i, j) stands in the plane, and the point in the output
pub record Place (h w i j : ℕ) : Type 0 where
  pub square_in : i * w + j + (2 * w + 2) < h * w
  pub point_in : i * (w - 2) + j < (h - 2) * (w - 2)
  pub area : h * w ≤ 16777216

pub place : (h w i j : ℕ) → SidesIn least_plane_side h w → i < h - 2 → j < w - 2 → Place h w i j
place h w i j s a b =
    let d : (i + 2) * w + (j + 2) < h * w = digits_lt (omega arith) (omega arith) in
    record { square_in = omega (arith, d, add-mul i 2 w); point_in = digits_lt a b; area = s.area }

-- the square at (i, j) of plane k stands among the three planes
pub square_in : (h w k i j : ℕ) → SidesIn least_plane_side h w → k < 3 → i < h - 2 → j < w - 2
    → k * (h * w) + (i * w + j) + (2 * w + 2) < 3 * (h * w)
square_in h w k i j s l a b =
    let m : k * (h * w) ≤ 2 * (h * w) = mul-le-mul_right (h * w) (omega arith) in
    omega (arith, m, (place h w i j s a b).square_in)

-- ---- units give numbers

difference_number : (a b c d e f : Float) → unit a ≡ true → unit b ≡ true → unit c ≡ true → unit d ≡ true → unit e ≡ true → unit f ≡ true
    → Number (difference a b c d e f)
unfolding difference
difference_number a b c d e f ua ub uc ud ue uf =
    add_number _ f
    (add_number _ e
    (add_number _ d
    (sub_number _ c (sub_number _ b (finite_number (neg a) (neg_finite a (unit_finite a ua))) (unit_finite b ub)) (unit_finite c uc))
    (unit_finite d ud))
    (unit_finite e ue))
    (unit_finite f uf)

-- the sum of a square of units is a number
pub square_number : (p : List Float) (at down right : ℕ) → UnitsTo p (at + (2 * down + 2 * right))
    → Number (row_sum (square p at down right) 0 0)
square_number p at down right u =
    let low = at + 2 * down in
    rw (square_sum p at down right) at
    (difference_number _ _ _ _ _ _
    (u at (omega arith)) (u (at + right) (omega arith)) (u (at + 2 * right) (omega arith))
    (u low (omega arith)) (u (low + right) (omega arith)) (u (low + 2 * right) (omega arith)))
