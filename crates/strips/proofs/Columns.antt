-- Each column has one score, in order (02, R-4): the parts of the list go on where those before them end. Assumes nothing.
use Prim.Native.Nat.{ℕ, zero, suc, ◌+◌, ◌-◌, ◌≤◌, ◌<◌, min, max}
use mathlib.Core.Path.{◌≡◌, sym, subst, ◌∙◌}
use mathlib.Core.List.{List, [], ◌∷◌, ◌++◌}
use native.Mathlib.Nat.{not-suc-le-zero, le_of_suc-le-suc}
use native.Mathlib.Omega.{arith}
use lib.ListN.{length, get_or}
use Rattle.lists.specs.Tab.{tab_from, tab}
use Rattle.lists.proofs.Tab.{length_tab_from}
use Rattle.lanes.specs.Score.{Place, at}
use Rattle.strips.specs.Strip.{places, score_count, PlaceOf, EachColumn}
use Rattle.strips.proofs.Scores.{middles, count_is, place_count_lem}

module _ (c₁ c₂ : ℕ) where
  -- the entries of a list of places are those of the columns from c on
  abbrev InOrder : ℕ → List Place → Type 0
  InOrder c l = (i : ℕ) → i < length l → PlaceOf c₁ c₂ (c + i) (get_or l i (at 0 0))

  of_same : {c d : ℕ} {p : Place} → c ≡ d → PlaceOf c₁ c₂ c p → PlaceOf c₁ c₂ d p
  of_same {c} {d} {p} e o = subst (λ (x : ℕ). PlaceOf c₁ c₂ x p) e o

  in_append : (l m : List Place) (c : ℕ) → InOrder c l → InOrder (c + length l) m → InOrder c (l ++ m)
  in_append [] m c o q i h = of_same (omega arith) (q i h)
  in_append (x ∷ l) m c o q zero h = o zero (omega arith)
  in_append (x ∷ l) m c o q (suc i) h =
      let later : InOrder (suc c) l = λ j k. of_same (omega arith) (o (suc j) (omega arith)) in
      of_same (omega arith) (in_append l m (suc c) later (λ j k. of_same (omega arith) (q j k)) i (le_of_suc-le-suc h))

  in_pair : (s k c : ℕ) → s ≡ max c₁ (min (c - 2) (c₂ - 4)) → s ≡ max c₁ (min (c + 1 - 2) (c₂ - 4)) → k < 4 → s + k ≡ c →
      InOrder c (at s k ∷ at s (suc k) ∷ [])
  in_pair s k c f t l e zero h = of_same (omega arith) (record { strip_is = f; column_is = e; is_on_strip = omega arith })
  in_pair s k c f t l e (suc zero) h = of_same (omega arith) (record { strip_is = t; column_is = omega arith; is_on_strip = omega arith })
  in_pair s k c f t l e (suc (suc i)) h = absurd (omega arith)

  -- n strips with target lane 2, from the one at a + from on
  in_tab : (a from n : ℕ) → c₁ ≤ a → a + from + n + 3 ≤ c₂ → InOrder (a + from + 2) (tab_from from n (λ i. at (a + i) 2))
  in_tab a from zero f t i h = absurd (not-suc-le-zero h)
  in_tab a from (suc n) f t zero h =
      record { strip_is = omega arith; column_is = omega arith; is_on_strip = omega arith }
  in_tab a from (suc n) f t (suc i) h = of_same (omega arith) (in_tab a (suc from) n f (omega arith) i (le_of_suc-le-suc h))

-- of spans of at least 4, as all are that locating scores
pub each_column : (c₁ c₂ : ℕ) → c₁ + 4 ≤ c₂ → EachColumn c₁ c₂
each_column c₁ c₂ span =
    let counted : length (places c₁ c₂) ≡ score_count c₁ c₂ = sym (count_is c₁ c₂) ∙ place_count_lem c₁ c₂ span in
    let n = middles c₁ c₂ in
    let middle : List Place = tab n (λ i. at (c₁ + i) 2) in
    let last : List Place = at (c₂ - 4) 3 ∷ at (c₂ - 4) 4 ∷ [] in
    let long : length middle ≡ n = length_tab_from 0 n _ in
    let m = in_tab c₁ c₂ c₁ 0 n (omega arith) (omega arith) in
    let l = in_pair c₁ c₂ (c₂ - 4) 3 (c₁ + 0 + 2 + length middle) (omega arith) (omega arith) (omega arith) (omega (arith, long)) in
    let f = in_pair c₁ c₂ c₁ 0 c₁ (omega arith) (omega arith) (omega arith) (omega arith) in
    let more = in_append c₁ c₂ middle last (c₁ + 0 + 2) m l in
    record {
      counted = counted;
      in_order = λ i h.
          in_append c₁ c₂ (at c₁ 0 ∷ at c₁ 1 ∷ []) (middle ++ last) c₁ f (λ j k. of_same c₁ c₂ (omega arith) (more j k)) i (omega (arith, counted));
    }
