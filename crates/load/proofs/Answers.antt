-- What an answer of 0 tells: all is fit. Assumes nothing.
use Prim.Native.Nat.{ℕ, ◌*◌, ◌≤◌}
use mathlib.Core.Path.{◌≡◌}
use borrow.Author.Tests.{ltb-false}
use lib.Dec.{ltb}
use Rattle.board.specs.Board.{least_side, sides_outside}
use Rattle.board.specs.Inner.{SidesIn}
use Rattle.board.proofs.Sides.{sides_in, passed}
use Rattle.load.specs.Load.{load_answer}

pub record Loadable (h w pixels planes : ℕ) : Type 0 where
  pub sides : SidesIn least_side h w
  pub pixels_in : 4 * (h * w) ≤ pixels
  pub planes_in : 3 * (h * w) ≤ planes

pub loadable : (h w pixels planes : ℕ) → load_answer h w pixels planes ≡ 0 → Loadable h w pixels planes
unfolding load_answer
loadable h w pixels planes e =
    let a = passed (sides_outside least_side h w) 0 _ e in
    let b = passed (ltb pixels (4 * (h * w))) 1 _ a.1 in
    let c = passed (ltb planes (3 * (h * w))) 2 _ b.1 in
    record { sides = sides_in least_side h w a.0; pixels_in = ltb-false _ _ b.0; planes_in = ltb-false _ _ c.0 }
