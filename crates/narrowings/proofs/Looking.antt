-- A screen's gradients at the front of a slice, and the edge picture made of them at the front of another. Assumes nothing.
use Prim.Native.Nat.{ℕ, ◌-◌, ◌*◌, ◌≤◌}
use mathlib.Core.Path.{◌≡◌}
use mathlib.Core.List.{List}
use native.Mathlib.Omega.{arith}
use lib.Ieee.{Float}
use lib.ListN.{length, take}
use Rattle.lists.specs.Picture.{points}
use Rattle.lists.specs.Front.{AtFront}
use Rattle.lists.proofs.Front.{front_fits, front_part}
use Rattle.gradient.specs.Gradient.{gradients}
use Rattle.gradient.proofs.Laws.{length_gradients}
use Rattle.edges.specs.Edges.{threshold, marks, edges}
use Rattle.edges.specs.Inner.{GradientsFit, ByBits}
use Rattle.edges.proofs.Laws.{length_edges, all_plain}
use Rattle.board.specs.Board.{least_plane_side}
use Rattle.board.specs.Inner.{FitPlanes}
use Rattle.narrowings.specs.Inner.{Looks}
use Rattle.board.specs.declared.Bounds.{Bounds}
use Rattle.bounds.specs.Bounds.{bounds_of}
use Rattle.bounds.specs.Inner.{marks_by}

module _ (h w : ℕ) (planes : List Float) where
  -- the part of a slice that holds the gradients, and the part that holds the edge picture
  pub gradients_part : {before after : List Float} → AtFront (gradients h w planes) before after
      → take ((h - 2) * (w - 2)) after ≡ gradients h w planes
  gradients_part x = front_part ((h - 2) * (w - 2)) (length_gradients h w planes) x

  pub edges_in : {before after : List ℕ} → AtFront (edges h w planes) before after → (h - 2) * (w - 2) ≤ length after
  edges_in x = omega (arith, front_fits x, length_edges h w planes)

  pub edges_part : {before after : List ℕ} → AtFront (edges h w planes) before after → take ((h - 2) * (w - 2)) after ≡ edges h w planes
  edges_part x = front_part ((h - 2) * (w - 2)) (length_edges h w planes) x

  -- such gradients have a threshold
  pub gradients_fit : {before after : List Float} → FitPlanes least_plane_side h w planes → AtFront (gradients h w planes) before after
      → GradientsFit (h - 2) (w - 2) (take ((h - 2) * (w - 2)) after)
  gradients_fit f x =
      let s = f.sides in
      rw (gradients_part x) (record {
        row_in = omega (arith, s.high_h);
        column_in = omega (arith, s.high_w);
        long = length_gradients h w planes;
        plain = all_plain f;
      })

  -- threshold and bounds that are taken from them are those of the screen
  pub looks_by : {th : Float} {b : Bounds} {before after : List Float} → AtFront (gradients h w planes) before after
      → let g = take ((h - 2) * (w - 2)) after in
      th ≡ threshold (h - 2) (w - 2) g → ByBits th g → b ≡ bounds_of (points (w - 2) 1 (marks_by th g)) (h - 2) (w - 2)
      → Looks h w planes th b after
  looks_by x t p is =
      let part = gradients_part x in
      let th = rw part at t in
      record {
        gradients_are = part;
        threshold_is = th;
        by_bits = rw part at p;
        bounds_are = rw (part, th, length_gradients h w planes) at is;
      }

  -- the marks of the gradients by their threshold are the edge picture
  pub edged : {th : Float} {g : List Float} {before after : List ℕ} → g ≡ gradients h w planes
      → th ≡ threshold (h - 2) (w - 2) (gradients h w planes)
      → AtFront (marks th (length g) g) before after → AtFront (edges h w planes) before after
  edged e t x = rw (e, t, length_gradients h w planes) at x
