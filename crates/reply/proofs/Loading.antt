-- What loading leaves of a screen of the program, in planes of its size: fit planes and a fresh record, or a refusal.
-- Nothing else here speaks of loading's contract. Assumes nothing.
use Prim.Native.Nat.{ℕ, ◌*◌, ◌<◌}
use mathlib.Core.Path.{◌≡◌, sym, ◌∙◌}
use mathlib.Core.List.{List}
use native.Mathlib.Omega.{arith}
use borrow.Author.Tests.{eq-eqb}
use lib.Ieee.{Float}
use lib.ListN.{length, get_or}
use Rattle.lists.proofs.Front.{front_all}
use Rattle.board.specs.Board.{least_side, sides_outside, fresh}
use Rattle.board.specs.Screen.{packed}
use Rattle.board.specs.Inner.{FitPlanes}
use Rattle.board.proofs.Packed.{length_packed}
use Rattle.board.proofs.Sides.{passed, sides_in}
use Rattle.load.specs.declared.Loaded.{Loaded}
use Rattle.load.specs.Load.{most_byte, shown, load_answer, LoadGives}
use Rattle.load.proofs.Laws.{shown_fit}

-- the planes of the screen
abbrev pub planes_of : ℕ → ℕ → List ℕ → List Float
planes_of h w pixels = packed (shown most_byte h w pixels)

pub planes_length : (h w : ℕ) (pixels : List ℕ) → length (planes_of h w pixels) ≡ 3 * (h * w)
planes_length h w pixels = length_packed (shown most_byte h w pixels)

module _ {h w : ℕ} {pixels : List ℕ} {r : Loaded} {before after : List Float} (loads : LoadGives most_byte h w pixels before r after)
    (sized : length before ≡ 3 * (h * w)) where
  pub answer_is : r.answer ≡ load_answer h w (length pixels) (3 * (h * w))
  answer_is = rw sized at loads.answer_is

  module _ (accepted : r.answer ≡ 0) where
    pub planes_are : after ≡ planes_of h w pixels
    planes_are = front_all (rw (eq-eqb r.answer 0 accepted) at loads.planes_are) (planes_length h w pixels ∙ sym sized)

    pub board_is : r.board ≡ fresh h w
    board_is = loads.board_is ∙ rw (eq-eqb r.answer 0 accepted)

    pub planes_fit : ((k : ℕ) → get_or pixels k 0 < 256) → FitPlanes least_side h w (planes_of h w pixels)
    unfolding load_answer
    planes_fit byte =
        shown_fit most_byte h w pixels (omega arith) (omega arith) (λ k. omega (arith, byte k))
        (sides_in least_side h w (passed (sides_outside least_side h w) 0 _ (sym answer_is ∙ accepted)).0)
