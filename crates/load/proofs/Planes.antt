-- Three planes of n values that are filled together, one place of each at a time. Assumes nothing.
use Prim.Native.Nat.{ℕ, zero, suc, ◌+◌, ◌*◌, ◌/◌, ◌%◌, ◌≤◌, ◌<◌}
use mathlib.Core.Path.{◌≡◌, refl, sym, ap, ◌∙◌}
use mathlib.Core.List.{List, ◌++◌}
use mathlib.Core.Logic.{⊎_elim}
use native.Mathlib.Nat.{eq-or-lt_of_le, div-add-mod'}
use native.Mathlib.Omega.{arith}
use lib.ListN.{length, set, get_or, drop, length-append, length-drop, length-set}
use lib.Seq.{get_or-set_same, get_or-set_other, ext_get_or}
use Rattle.std.proofs.lemmas.Bool.{cases_lt}
use Rattle.lists.specs.Front.{AtFront}
use Rattle.lists.specs.Tab.{grid}
use Rattle.lists.proofs.Tab.{length_tab_from, get_or_tab}
use Rattle.lists.proofs.Front.{front_by, front_within, front_beyond}
use Rattle.lists.proofs.Grid.{row_column}

module _ {A : Type 0} (z : A) (g : ℕ → ℕ → A) (n : ℕ) where
  -- the first i places of each plane have their value, and what lies past the planes is as it was
  pub record Laid (i : ℕ) (before out : List A) : Type 0 where
    pub len : length out ≡ length before
    pub done : (k p : ℕ) → k < 3 → p < i → get_or out (k * n + p) z ≡ g k p
    pub rest : (r : ℕ) → 3 * n ≤ r → get_or out r z ≡ get_or before r z

  pub laid_none : {d : List A} → Laid 0 d d
  laid_none = record { len = refl; done = λ k p a b. absurd (omega arith); rest = λ r h. refl }

  -- the place i of each plane
  abbrev three : List A → ℕ → A → A → A → List A
  three out i a b c = set (set (set out i a) (n + i) b) (2 * n + i) c

  other : (out : List A) (i r : ℕ) (a b c : A) → (r ≡ i → ⊥) → (r ≡ n + i → ⊥) → (r ≡ 2 * n + i → ⊥)
      → get_or (three out i a b c) r z ≡ get_or out r z
  other out i r a b c p q s =
      get_or-set_other (set (set out i a) (n + i) b) (2 * n + i) r c z s
      ∙ get_or-set_other (set out i a) (n + i) r b z q
      ∙ get_or-set_other out i r a z p

  module _ (out : List A) (i : ℕ) (a b c : A) (l : i < n) (fits : 3 * n ≤ length out) where
    newest : (k : ℕ) → k < 3 → a ≡ g 0 i → b ≡ g 1 i → c ≡ g 2 i → get_or (three out i a b c) (k * n + i) z ≡ g k i
    newest zero h ea eb ec =
        let e : 0 * n + i ≡ i = omega arith in
        rw e
        (get_or-set_other (set (set out i a) (n + i) b) (2 * n + i) i c z (λ q. let x : ⊥ = omega arith in x)
        ∙ get_or-set_other (set out i a) (n + i) i b z (λ q. let x : ⊥ = omega arith in x)
        ∙ get_or-set_same out i a z (omega arith) ∙ ea)
    newest (suc zero) h ea eb ec =
        let e : 1 * n + i ≡ n + i = omega arith in
        rw e
        (get_or-set_other (set (set out i a) (n + i) b) (2 * n + i) (n + i) c z (λ q. let x : ⊥ = omega arith in x)
        ∙ get_or-set_same (set out i a) (n + i) b z (omega (arith, length-set out i a)) ∙ eb)
    newest (suc (suc zero)) h ea eb ec =
        get_or-set_same (set (set out i a) (n + i) b) (2 * n + i) c z
        (omega (arith, length-set (set out i a) (n + i) b, length-set out i a))
        ∙ ec
    newest (suc (suc (suc k))) h ea eb ec = absurd (omega arith)

    older : (k p : ℕ) → k < 3 → p < i → get_or (three out i a b c) (k * n + p) z ≡ get_or out (k * n + p) z
    older zero p h q = other out i (0 * n + p) a b c (λ e. omega arith) (λ e. omega arith) (λ e. omega arith)
    older (suc zero) p h q = other out i (1 * n + p) a b c (λ e. omega arith) (λ e. omega arith) (λ e. omega arith)
    older (suc (suc zero)) p h q = other out i (2 * n + p) a b c (λ e. omega arith) (λ e. omega arith) (λ e. omega arith)
    older (suc (suc (suc k))) p h q = absurd (omega arith)

  pub laid_more : {i : ℕ} {d out : List A} {a b c : A} → Laid i d out → i < n → 3 * n ≤ length d → a ≡ g 0 i → b ≡ g 1 i → c ≡ g 2 i
      → Laid (i + 1) d (three out i a b c)
  laid_more {i} {d} {out} {a} {b} {c} h l f ea eb ec =
      let fits : 3 * n ≤ length out = omega (arith, h.len) in
      record {
        len = length-set (set (set out i a) (n + i) b) (2 * n + i) c ∙ length-set (set out i a) (n + i) b ∙ length-set out i a ∙ h.len;
        done = λ k p s t.
            ⊎_elim
            (λ e. rw e (newest out i a b c l fits k s ea eb ec))
            (λ q. older out i a b c l fits k p s q ∙ h.done k p s q)
            (eq-or-lt_of_le {n = p} {m = i} (omega arith));
        rest = λ r s. other out i r a b c (λ e. omega arith) (λ e. omega arith) (λ e. omega arith) ∙ h.rest r s;
      }

  -- all places: the planes one after another, then what was there
  pub laid_all : {d out : List A} → Laid n d out → 3 * n ≤ length d → AtFront (grid 3 n g) d out
  laid_all {d} {out} h f =
      front_by (3 * n) long f
      (ext_get_or z out (list ++ drop (3 * n) d)
      (h.len ∙ sym (simp (length-append, length_tab_from, length-drop) (omega arith)))
      (λ r s. ⊎_elim (λ b. within r b) (λ b. h.rest r b ∙ sym (front_beyond z r whole (rw long b))) (cases_lt r (3 * n))))
    where
      list : List A
      list = grid 3 n g

      long : length list ≡ 3 * n
      long = length_tab_from 0 (3 * n) (λ k. g (k / n) (k % n))

      whole : AtFront list d (list ++ drop (3 * n) d)
      whole = front_by (3 * n) long f refl

      within : (r : ℕ) → r < 3 * n → get_or out r z ≡ get_or (list ++ drop (3 * n) d) r z
      within r b =
          let at = row_column 3 n r b in
          ap (λ (k : ℕ). get_or out k z) (sym (div-add-mod' r n)) ∙ h.done (r / n) (r % n) at.0 at.1
          ∙ sym (front_within z r whole (rw long b) ∙ get_or_tab (3 * n) r (λ k. g (k / n) (k % n)) z b)
