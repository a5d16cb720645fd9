-- Sides that the first two lines give are at most the largest of the program, and the pixels begin within the longest first two lines.
-- Assumes nothing.
use Prim.Native.Nat.{ℕ, ◌+◌, ◌≤◌}
use mathlib.Core.Path.{◌≡◌, refl}
use mathlib.Core.Bool.{Bool, true, false, cond, ◌&&◌}
use mathlib.Core.List.{List}
use native.Mathlib.Omega.{arith}
use borrow.Author.Tests.{leb-true}
use lib.Dec.{leb}
use Rattle.board.specs.Board.{least_side}
use Rattle.std.proofs.lemmas.Bool.{and_parts}
use Rattle.std.specs.Prelude.{Result, Ok, Err, IfOk}
use Rattle.refusal.specs.declared.Refusal.{Refusal}
use Rattle.refusal.specs.declared.Refusal.TheVariants.{BadSide, BadNumber}
use Rattle.header.specs.declared.Sides.{Sides}
use Rattle.header.specs.declared.Numeral.{Numeral}
use Rattle.std.proofs.lemmas.Result.{IfOk-weaker}
use Rattle.header.specs.Inner.{number_at, after}
use Rattle.header.proofs.Numbers.{numbers_read, number_near}
use Rattle.header.specs.Header.{sides_line, begins, most_shown, shown_side, sized, numbers_at, header_of}

abbrev pub Shown : ℕ → Result Sides Refusal → Type 0
Shown most (Ok s) = (s.height ≤ most_shown) × (s.width ≤ most_shown) × (s.at ≤ most)
Shown most (Err r) = Unit

either : (most : ℕ) (b : Bool) (x y : Result Sides Refusal) → (b ≡ true → Shown most x) → Shown most y → Shown most (cond b x y)
either most true x y p q = p refl
either most false x y p q = q

side_shown : (s : ℕ) → shown_side s ≡ true → s ≤ most_shown
side_shown s e = leb-true s most_shown (and_parts (leb least_side s) (leb s most_shown) e).1

sized_shown : (most h w at : ℕ) → at ≤ most → Shown most (sized h w at)
unfolding sized
sized_shown most h w at l =
    either most (shown_side h && shown_side w) (Ok (record { height = h; width = w; at = at })) (Err BadSide)
    (λ e. let s = and_parts (shown_side h) (shown_side w) e in (side_shown h s.0, side_shown w s.1, l))
    tt

numbers_shown : (bytes : List ℕ) (from : ℕ) → Shown (from + 10) (numbers_at bytes from)
numbers_shown bytes from =
    rw (numbers_read bytes from) (first (number_at bytes from 32) (number_near bytes from 32))
  where
    second : (h : Numeral) (n : Result Numeral Refusal) → IfOk n (λ w. w.next ≤ from + 10)
        → Shown (from + 10) (after n (λ w. sized h.value w.value w.next))
    second h (Ok w) l = sized_shown (from + 10) h.value w.value w.next l
    second h (Err r) l = tt

    first : (n : Result Numeral Refusal) → IfOk n (λ h. h.next ≤ from + 5)
        → Shown (from + 10) (after n (λ h. after (number_at bytes h.next 10) (λ w. sized h.value w.value w.next)))
    first (Ok h) l = second h (number_at bytes h.next 10)
        (IfOk-weaker (number_at bytes h.next 10) (λ w. w.next ≤ h.next + 5) (λ w. w.next ≤ from + 10) (λ w s. omega arith)
        (number_near bytes h.next 10))
    first (Err r) l = tt

pub header_shown : (bytes : List ℕ) → Shown 23 (header_of bytes)
unfolding header_of
header_shown bytes = either 23 (begins sides_line bytes) (numbers_at bytes 13) (Err BadNumber) (λ _. numbers_shown bytes 13) tt
