-- What is printed of a screen that was loaded into planes of its size, which are lent from a longer array: a refusal of load's alone, or
-- what locating finds in the planes. Assumes nothing.
use Prim.Native.Nat.{ℕ, ◌*◌, ◌≤◌, ◌<◌}
use mathlib.Core.Path.{◌≡◌, sym, ap, ◌∙◌}
use mathlib.Core.Bool.{cond}
use mathlib.Core.List.{List, ◌++◌}
use native.Mathlib.Omega.{arith}
use borrow.Author.Tests.{eq-eqb, ne_eqb}
use lib.Dec.{eqb}
use lib.Ieee.{Float, binary32, of_bits}
use lib.ListN.{length, get_or, take, replicate, length-append, length-replicate}
use lib.Seq.{length-take-le, take_at}
use Rattle.board.specs.Board.{least_side, fresh}
use Rattle.board.specs.Inner.{FitPlanes}
use Rattle.load.specs.declared.Loaded.{Loaded}
use Rattle.load.specs.Load.{most_byte, load_answer, LoadGives}
use Rattle.locate.specs.declared.Located.{Located}
use Rattle.locate.specs.Locate.{found_in}
use Rattle.reply.specs.Values.{located, alone}
use Rattle.header.specs.Header.{most_shown}
use Rattle.reply.specs.Answer.{factor, values_of}
use Rattle.reply.proofs.Loading.{planes_of, planes_length, answer_is, planes_are, board_is, planes_fit}
use Rattle.reply.proofs.Locating.{most_area, area}

-- as many zeros as the planes of the largest screen
abbrev zeros : List Float
zeros = replicate (3 * most_area) (of_bits binary32 0)

-- planes of the screen's size are lent from them
pub size : {h w : ℕ} → h ≤ most_shown → w ≤ most_shown → length (take (3 * (h * w)) zeros) ≡ 3 * (h * w)
size {h} {w} a b = length-take-le (3 * (h * w)) zeros (omega (arith, area a b, length-replicate (3 * most_area) (of_bits binary32 0)))

-- a choice by an answer that is 0
accepting : {A : Type 0} (answer : ℕ) (x y : A) → answer ≡ 0 → cond (eqb answer 0) x y ≡ x
accepting answer x y e = rw (eq-eqb answer 0 e)

module _ {h w : ℕ} {pixels : List ℕ} {r : Loaded} {before after : List Float} (loads : LoadGives most_byte h w pixels before r after)
    (sized : length before ≡ 3 * (h * w)) where
  pub refused : (r.answer ≡ 0 → ⊥) → alone r.answer ≡ values_of h w pixels
  unfolding values_of
  refused n = rw (← answer_is loads sized, ne_eqb r.answer 0 n)

  -- loading accepted: what it leaves stands before the rest of the array
  module _ (accepted : r.answer ≡ 0) (rest : List Float) where
    after_length : length after ≡ 3 * (h * w)
    after_length = ap length (planes_are loads sized accepted) ∙ planes_length h w pixels

    pub inside : 3 * (h * w) ≤ length (after ++ rest)
    inside = omega (arith, after_length, length-append after rest)

    lent_is : take (3 * (h * w)) (after ++ rest) ≡ planes_of h w pixels
    lent_is = take_at after rest (3 * (h * w)) after_length ∙ planes_are loads sized accepted

    pub lent_length : 3 * (h * w) ≡ length (take (3 * (h * w)) (after ++ rest))
    lent_length = sym (ap length lent_is ∙ planes_length h w pixels)

    pub lent_fit : ((k : ℕ) → get_or pixels k 0 < 256) → h ≤ 64 → w ≤ 64
        → FitPlanes least_side r.board.height r.board.width (take (3 * (h * w)) (after ++ rest))
        × (r.board.height ≤ 64)
        × (r.board.width ≤ 64)
    lent_fit byte a b = rw (board_is loads sized accepted, lent_is) (planes_fit loads sized accepted byte, a, b)

    values_are : values_of h w pixels ≡ located (found_in (fresh h w) factor (planes_of h w pixels))
    unfolding values_of
    values_are = accepting (load_answer h w (length pixels) (3 * (h * w))) _ _ (sym (answer_is loads sized) ∙ accepted)

    pub prints : {l : Located} → l ≡ found_in r.board factor (take (3 * (h * w)) (after ++ rest)) → located l ≡ values_of h w pixels
    prints {l} e =
        let is : found_in r.board factor (take (3 * (h * w)) (after ++ rest)) ≡ found_in (fresh h w) factor (planes_of h w pixels) =
        rw (board_is loads sized accepted, lent_is) in
        ap located (e ∙ is) ∙ sym values_are
