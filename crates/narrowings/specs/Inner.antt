-- For the code alone: what its steps ask and leave. No contract of an entry point reaches these.
use Rattle.std.specs.Prelude.{ℕ, ◌-◌, ◌*◌, ◌≤◌, ◌≡◌, List, Float, take}
use Rattle.lists.specs.Picture.{points}
use Rattle.board.specs.declared.Bounds.{Bounds}
use Rattle.board.specs.Board.{least_plane_side}
use Rattle.gradient.specs.Gradient.{gradients}
use Rattle.edges.specs.Edges.{threshold, edges}
use Rattle.edges.specs.Inner.{ByBits}
use Rattle.bounds.specs.Bounds.{bounds_of}
use Rattle.narrowings.specs.declared.Narrowed.{Narrowed}
use Rattle.narrowings.specs.Loop.{Last}

-- the threshold of a screen's gradients, which stand at the front of g and are compared with it by their bits, and the bounds of its edge
-- picture
pub record Looks (h w : ℕ) (planes : List Float) (th : Float) (b : Bounds) (g : List Float) : Type 0 where
  pub gradients_are : take ((h - 2) * (w - 2)) g ≡ gradients h w planes
  pub threshold_is : th ≡ threshold (h - 2) (w - 2) (gradients h w planes)
  pub by_bits : ByBits th (gradients h w planes)
  pub bounds_are : b ≡ bounds_of (points (w - 2) 1 (edges h w planes)) (h - 2) (w - 2)

-- where the loop from sides h and w ends: the last picture, which has an edge picture and is no larger, and a look at it
pub record Narrows (h w : ℕ) (last : Last) (r : Narrowed) (planes g : List Float) : Type 0 where
  pub height_is : r.height ≡ last.stage.height
  pub width_is : r.width ≡ last.stage.width
  pub narrowed_is : r.narrowed ≡ last.stage.narrowed
  pub small_is : r.small ≡ last.too_small
  pub planes_are : planes ≡ last.stage.planes
  pub low_h : least_plane_side ≤ r.height
  pub low_w : least_plane_side ≤ r.width
  pub area : r.height * r.width ≤ h * w
  pub looks : let s = last.stage in Looks s.height s.width s.planes r.threshold r.bounds g
