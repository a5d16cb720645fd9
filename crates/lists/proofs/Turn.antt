-- Lists one after another: one list more, and, of lists that are all as long, the length, the entries, and how they are written. Assumes
-- nothing.
use Prim.Native.Nat.{ℕ, zero, suc, ◌+◌, ◌-◌, ◌*◌, ◌≤◌, ◌<◌}
use mathlib.Core.Path.{◌≡◌, refl, sym, ap, ◌∙◌}
use mathlib.Core.List.{List, [], ◌∷◌, ◌++◌, append-nil, append_assoc}
use native.Mathlib.Nat.{not-suc-le-zero, zero-mul, suc-mul}
use native.Mathlib.Omega.{arith}
use lib.ListN.{length, get_or, length-append, get_or-append}
use lib.Seq.{get_or-append-add}
use borrow.Rule.Slice.PartMut.{mid_of, put_mid, mid_len}
use Rattle.lists.specs.Front.{AtFront}
use Rattle.lists.specs.Tab.{tab_from, tab}
use Rattle.lists.specs.Turn.{in_turn}
use Rattle.lists.proofs.Front.{front_all, placed_part, placed_front}
use Rattle.lists.proofs.Grid.{tab_more}

module _ {A : Type 0} where
  in_turn_append : (a b : List (List A)) → in_turn (a ++ b) ≡ in_turn a ++ in_turn b
  in_turn_append [] b = refl
  in_turn_append (x ∷ a) b = rw (in_turn_append a b) (sym (append_assoc x (in_turn a) (in_turn b)))

  -- lists by a rule, and one more
  pub in_turn_more : (n : ℕ) (f : ℕ → List A) → in_turn (tab (n + 1) f) ≡ in_turn (tab n f) ++ f n
  in_turn_more n f = rw (tab_more n f) (in_turn_append (tab n f) (f n ∷ []) ∙ rw (append-nil (f n)) refl)

  -- ---- all of length m

  module _ (m : ℕ) (f : ℕ → List A) (each : (k : ℕ) → length (f k) ≡ m) where
    length_from : (from n : ℕ) → length (in_turn (tab_from from n f)) ≡ n * m
    length_from from zero = sym (zero-mul m)
    length_from from (suc n) =
        let rest = in_turn (tab_from (suc from) n f) in
        omega (arith, length-append (f from) rest, each from, length_from (suc from) n, suc-mul n m)

    pub length_in_turn : (n : ℕ) → length (in_turn (tab n f)) ≡ n * m
    length_in_turn = length_from 0

    entry_from : (z : A) (from n i k : ℕ) → i < n → k < m → get_or (in_turn (tab_from from n f)) (i * m + k) z ≡ get_or (f (from + i)) k z
    entry_from z from zero i k h l = absurd (not-suc-le-zero h)
    entry_from z from (suc n) zero k h l =
        let e : 0 * m + k ≡ k = omega (arith, zero-mul m) in
        let s : from + 0 ≡ from = omega arith in
        rw (e, s) (get_or-append (f from) (in_turn (tab_from (suc from) n f)) z k (omega (arith, each from)))
    entry_from z from (suc n) (suc i) k h l =
        let e : suc i * m + k ≡ length (f from) + (i * m + k) = omega (arith, each from, suc-mul i m) in
        let s : suc from + i ≡ from + suc i = omega arith in
        rw e
        (get_or-append-add (f from) (in_turn (tab_from (suc from) n f)) (i * m + k) z
        ∙ entry_from z (suc from) n i k (omega arith) l
        ∙ ap (λ (j : ℕ). get_or (f j) k z) s)

    -- entry k of list i
    pub entry_in_turn : (z : A) (n i k : ℕ) → i < n → k < m → get_or (in_turn (tab n f)) (i * m + k) z ≡ get_or (f i) k z
    entry_in_turn z n i k h l =
        let s : 0 + i ≡ i = omega arith in
        entry_from z 0 n i k h l ∙ ap (λ (j : ℕ). get_or (f j) k z) s

    -- one list more that was written through the part where it stands
    pub front_in_turn : (n : ℕ) {lent s last : List A} → AtFront (in_turn (tab n f)) lent s → n * m + m ≤ length s
        → AtFront (f n) (mid_of (n * m) (n * m + m - n * m) s) last
        → AtFront (in_turn (tab (n + 1) f)) lent (put_mid (n * m) (n * m + m - n * m) s last)
    front_in_turn n {s = s} h fits part =
        let from = n * m in
        let mid = mid_len from (from + m) s fits in
        let long : length (f n) ≡ from + m - from = omega (arith, each n) in
        rw (front_all part (omega (arith, long, mid)), in_turn_more n f)
        (placed_front h (length_in_turn n) (placed_part from (from + m - from) s (f n) mid long))
