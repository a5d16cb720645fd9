-- `room` bytes are enough: what is printed for an input is what is printed for its first `room` bytes. Loading looks at the numbers of the
-- pixels alone and at whether there are so many, and the first two lines are found in the front of the input (header's Cut). Assumes
-- nothing.
use Prim.Native.Nat.{ℕ, ◌+◌, ◌-◌, ◌*◌, ◌/◌, ◌%◌, ◌≤◌, ◌<◌}
use mathlib.Core.Path.{◌≡◌, refl, ap, ◌∙◌}
use mathlib.Core.Bool.{Bool, true, false, cond}
use mathlib.Core.List.{List}
use native.Mathlib.Nat.{mod-lt, div-add-mod'}
use native.Mathlib.Omega.{arith}
use borrow.Author.Tests.{lt-ltb, le-ltb, ltb-true, ltb-false}
use lib.Dec.{eqb, ltb}
use lib.Ieee.{Float}
use lib.ListN.{length, take, drop, length-take}
use lib.Seq.{get_or-take}
use Rattle.lists.proofs.Tab.{tab_same}
use Rattle.lists.proofs.Part.{drop_take}
use Rattle.board.specs.Board.{fresh}
use Rattle.board.specs.Screen.{packed}
use Rattle.load.specs.Load.{most_byte, level, shown, load_answer}
use Rattle.locate.specs.Locate.{found_in}
use Rattle.std.specs.Prelude.{Result, Ok, Err}
use Rattle.refusal.specs.declared.Refusal.{Refusal}
use Rattle.header.specs.declared.Sides.{Sides}
use Rattle.header.specs.Header.{header_of}
use Rattle.header.proofs.Cut.{header_front}
use Rattle.header.proofs.Shown.{Shown, header_shown}
use Rattle.reply.specs.Values.{located, alone}
use Rattle.reply.specs.Answer.{factor, values_of, values_for, answer_to, room}
use Rattle.reply.proofs.Locating.{area}

-- a cut at m leaves a test of the length below m as it was
test_front : (pixels : List ℕ) (m n : ℕ) → n ≤ m → ltb (length (take m pixels)) n ≡ ltb (length pixels) n
test_front pixels m n h = go (ltb (length pixels) n) refl
  where
    go : (t : Bool) → ltb (length pixels) n ≡ t → ltb (length (take m pixels)) n ≡ t
    go true e = lt-ltb _ n (simp length-take (omega (arith, ltb-true (length pixels) n e)))
    go false e = le-ltb _ n (simp length-take (omega (arith, ltb-false (length pixels) n e)))

-- what is printed where loading answers this and leaves these planes
abbrev printed : ℕ → ℕ → ℕ → List Float → List ℕ
printed h w answer planes = cond (eqb answer 0) (located (found_in (fresh h w) factor planes)) (alone answer)

module _ (h w : ℕ) (pixels : List ℕ) (m : ℕ) (whole : 4 * (h * w) ≤ m) where
  level_front : (k n : ℕ) → n < h * w
      → (shown most_byte h w (take m pixels)).px k (n / w) (n % w) ≡ (shown most_byte h w pixels).px k (n / w) (n % w)
  level_front k n l = ap (level most_byte) (get_or-take m pixels (4 * (n / w * w + n % w) + (2 - k)) 0 (omega (arith, div-add-mod' n w)))

  planes_front : packed (shown most_byte h w (take m pixels)) ≡ packed (shown most_byte h w pixels)
  planes_front = tab_same (3 * (h * w)) _ _ (λ p l. level_front (p / (h * w)) (p % (h * w)) (mod-lt p (omega arith)))

  answer_front : load_answer h w (length (take m pixels)) (3 * (h * w)) ≡ load_answer h w (length pixels) (3 * (h * w))
  unfolding load_answer
  answer_front = rw (test_front pixels m (4 * (h * w)) whole)

  values_front : values_of h w (take m pixels) ≡ values_of h w pixels
  unfolding values_of
  values_front =
      ap (λ (answer : ℕ). printed h w answer (packed (shown most_byte h w (take m pixels)))) answer_front
      ∙ ap (printed h w (load_answer h w (length pixels) (3 * (h * w)))) planes_front

-- the first two lines have at most 23 bytes
pub enough : (input : List ℕ) → answer_to (take room input) ≡ answer_to input
unfolding answer_to values_for
enough input = rw (header_front input room (omega arith)) (go (header_of input) (header_shown input))
  where
    go : (i : Result Sides Refusal) → Shown 23 i → values_for (take room input) i ≡ values_for input i
    go (Ok s) (a, b, l) =
        rw (drop_take s.at room input) (values_front s.height s.width (drop s.at input) (room - s.at) (omega (arith, area a b)))
    go (Err r) s = refl
