-- What callers know of the edge bytes: that gradients of fit planes meet what `threshold_of` requires, how many bytes there are, that each
-- is 0 or 1, and which is 1. Assumes nothing.
use Prim.Native.Nat.{ℕ, ◌-◌, ◌*◌, ◌≤◌, ◌<◌}
use mathlib.Core.Path.{◌≡◌, refl}
use mathlib.Core.Bool.{Bool, true, false}
use mathlib.Core.List.{List}
use native.Mathlib.Omega.{arith}
use borrow.Author.Tests.{ltb-true, ltb-false}
use lib.Dec.{eqb, ltb}
use lib.Ieee.{Float, nan, le}
use lib.ListN.{length, get_or, get_or-eq_default}
use Rattle.lists.specs.Picture.{bit}
use Rattle.lists.proofs.Tab.{get_or_tab, length_tab_from}
use Rattle.lists.proofs.Picture.{bit_le, bit_is}
use Rattle.binary32.proofs.Plain.{plain_bits}
use Rattle.board.specs.Board.{least_plane_side}
use Rattle.board.specs.Inner.{FitPlanes}
use Rattle.gradient.specs.Gradient.{gradients}
use Rattle.gradient.proofs.Laws.{length_gradients, gradients_plain}
use Rattle.edges.specs.Edges.{threshold, marks, edges}
use Rattle.edges.specs.Inner.{AllPlain}

pub all_plain : {h w : ℕ} {planes : List Float} → FitPlanes least_plane_side h w planes → AllPlain (gradients h w planes)
all_plain {h} {w} {planes} f k b = plain_bits _ (gradients_plain planes h w f k (omega (arith, length_gradients h w planes)))

pub length_edges : (h w : ℕ) (planes : List Float) → length (edges h w planes) ≡ (h - 2) * (w - 2)
length_edges h w planes = length_tab_from 0 ((h - 2) * (w - 2)) _

-- a byte of the marks is 1 where the gradient is at least the threshold
pub mark_is : (th : Float) (n : ℕ) (g : List Float) (k : ℕ) → k < n → eqb (get_or (marks th n g) k 0) 1 ≡ le th (get_or g k nan)
mark_is th n g k l = rw (get_or_tab n k (λ k. bit (le th (get_or g k nan))) 0 l) (bit_is (le th (get_or g k nan)))

mark_le : (th : Float) (n : ℕ) (g : List Float) (k : ℕ) → get_or (marks th n g) k 0 ≤ 1
mark_le th n g k = at (ltb k n) refl
  where
    at : (t : Bool) → ltb k n ≡ t → get_or (marks th n g) k 0 ≤ 1
    at true e = rw (get_or_tab n k (λ k. bit (le th (get_or g k nan))) 0 (ltb-true k n e)) (bit_le (le th (get_or g k nan)))
    at false e =
        let l : length (marks th n g) ≤ k = omega (arith, ltb-false k n e, length_tab_from 0 n (λ k. bit (le th (get_or g k nan)))) in
        omega (arith, get_or-eq_default (marks th n g) 0 l)

pub edge_le : (h w : ℕ) (planes : List Float) (k : ℕ) → get_or (edges h w planes) k 0 ≤ 1
edge_le h w planes k = mark_le (threshold (h - 2) (w - 2) (gradients h w planes)) ((h - 2) * (w - 2)) (gradients h w planes) k
