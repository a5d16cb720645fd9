-- The ways out of `get_gradient`: what the answer shows, and what it leaves. Assumes nothing.
use Rattle.std.proofs.Common.{◌≡◌, ℕ, ◌-◌, ◌*◌, ◌≤◌, Bool, false, ltb, List, length, sym, ◌∙◌, ltb-false, ne_eqb}
use lib.Ieee.{Float}
use Rattle.lists.specs.Front.{AtFront}
use Rattle.lists.proofs.Front.{front_none}
use Rattle.board.specs.Board.{least_plane_side, sides_outside}
use Rattle.board.specs.Planes.{planes_answer}
use Rattle.board.specs.Inner.{FitPlanes}
use Rattle.board.proofs.Planes.{planes_fit, answer_same}
use Rattle.gradient.specs.Gradient.{gradients, GradientGives}

-- n is the answer to planes where the output is short, if the sides are within their limits
module _ (h w : ℕ) (planes out : List Float) (n : ℕ) (short : Bool) (e : n ≡ planes_answer least_plane_side h w planes short)
    (s : sides_outside least_plane_side h w ≡ false → short ≡ ltb (length out) ((h - 2) * (w - 2)))
  where
    is : n ≡ planes_answer least_plane_side h w planes (ltb (length out) ((h - 2) * (w - 2)))
    is = e ∙ answer_same least_plane_side h w planes short (ltb (length out) ((h - 2) * (w - 2))) s

    -- an answer of 0: the planes are fit, and there is room
    pub fit : n ≡ 0 → FitPlanes least_plane_side h w planes × ((h - 2) * (w - 2) ≤ length out)
    fit z =
        let f = planes_fit least_plane_side h w planes (ltb (length out) ((h - 2) * (w - 2))) (sym is ∙ z) in
        (f.0, ltb-false (length out) ((h - 2) * (w - 2)) f.1)

    pub refused : (n ≡ 0 → ⊥) → GradientGives h w planes out n out
    refused z = record { answer_is = is; out_is = rw (ne_eqb n 0 z) front_none }

    pub worked : (after : List Float) → n ≡ 0 → AtFront (gradients h w planes) out after → GradientGives h w planes out 0 after
    worked after z f = record { answer_is = sym z ∙ is; out_is = f }
