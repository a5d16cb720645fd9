-- The scored places and the score list: how many they are, their entries, and how the parts make the list. Only `middles`,
-- `place_count_lem` and the two bounds beside it know the number. Assumes nothing.
use Prim.Native.Nat.{ℕ, zero, suc, ◌+◌, ◌-◌, ◌≤◌, ◌<◌}
use mathlib.Core.Path.{◌≡◌, refl, ap, ◌∙◌}
use mathlib.Core.Bool.{Bool}
use mathlib.Core.List.{List, [], ◌∷◌, ◌++◌, map, append_assoc}
use native.Mathlib.Nat.{not-suc-le-zero, le_of_suc-le-suc}
use native.Mathlib.Omega.{arith}
use lib.ListN.{length, get_or, set, drop, length-append, length-map, length-drop}
use borrow.Rule.Slice.PartMut.{put_mid, mid_of, mid_len}
use lib.Seq.{drop-drop}
use Rattle.std.proofs.lemmas.List.{get_or-map, map-append}
use Rattle.lists.specs.Front.{AtFront}
use Rattle.lists.specs.Tab.{tab_from, tab}
use Rattle.lists.proofs.Tab.{length_tab_from}
use Rattle.lists.proofs.Front.{front_by}
use Rattle.lanes.specs.Score.{Place, at, score}
use Rattle.strips.specs.Strip.{places, score_count, scores}
use Rattle.strips.specs.Inner.{place_count, bordered}
use Rattle.lanes.specs.Inner.{swept_scores}

-- ---- how many

-- the border places with those of n strips with target lane 2 between them
abbrev framed : ℕ → ℕ → ℕ → List Place
framed c₁ c₂ n = (at c₁ 0 ∷ at c₁ 1 ∷ []) ++ (tab n (λ i. at (c₁ + i) 2) ++ (at (c₂ - 4) 3 ∷ at (c₂ - 4) 4 ∷ []))

framed_length : (c₁ c₂ n : ℕ) → length (framed c₁ c₂ n) ≡ n + 4
framed_length c₁ c₂ n = simp (length-append, length_tab_from) (omega arith)

-- how many strips with target lane 2 there are
abbrev pub middles : ℕ → ℕ → ℕ
middles c₁ c₂ = c₂ - c₁ - 3

places_are : (c₁ c₂ : ℕ) → places c₁ c₂ ≡ framed c₁ c₂ (place_count c₁ c₂ - 4)
unfolding place_count
places_are c₁ c₂ =
    let n : middles c₁ c₂ ≡ place_count c₁ c₂ - 4 = omega (arith, framed_length c₁ c₂ (middles c₁ c₂)) in
    ap (framed c₁ c₂) n

pub count_is : (c₁ c₂ : ℕ) → place_count c₁ c₂ ≡ length (places c₁ c₂)
unfolding place_count
count_is c₁ c₂ = refl

pub place_count_lem : (c₁ c₂ : ℕ) → c₁ + 4 ≤ c₂ → place_count c₁ c₂ ≡ score_count c₁ c₂
place_count_lem c₁ c₂ h = count_is c₁ c₂ ∙ framed_length c₁ c₂ (middles c₁ c₂) ∙ omega arith

-- what callers need of the number
pub count_least : (c₁ c₂ : ℕ) → c₁ + 4 ≤ c₂ → 5 ≤ place_count c₁ c₂
count_least c₁ c₂ h = omega (arith, place_count_lem c₁ c₂ h)

pub count_most : (c₁ c₂ : ℕ) → c₁ + 4 ≤ c₂ → place_count c₁ c₂ ≤ c₂ - c₁ + 1
count_most c₁ c₂ h = omega (arith, place_count_lem c₁ c₂ h)

pub length_scores : (E : ℕ → ℕ → Bool) (from to c₁ c₂ : ℕ) → length (scores E from to c₁ c₂) ≡ place_count c₁ c₂
unfolding scores place_count
length_scores E from to c₁ c₂ = length-map (places c₁ c₂) (score E from to)

-- ---- entries

-- each entry of the list is the score of its place
pub score_at : (E : ℕ → ℕ → Bool) (from to c₁ c₂ i : ℕ) → i < place_count c₁ c₂ →
    get_or (scores E from to c₁ c₂) i 0 ≡ score E from to (get_or (places c₁ c₂) i (at 0 0))
unfolding scores place_count
score_at E from to c₁ c₂ i l = get_or-map (score E from to) (places c₁ c₂) i (at 0 0) 0 l

-- no score is above the number of steps
pub scores_most : (E : ℕ → ℕ → Bool) (from to c₁ c₂ i : ℕ) → get_or (scores E from to c₁ c₂) i 0 ≤ to - from
unfolding scores score
scores_most E from to c₁ c₂ i = not_more (places c₁ c₂) i
  where
    not_more : (l : List Place) (i : ℕ) → get_or (map (score E from to) l) i 0 ≤ to - from
    not_more [] i = omega arith
    not_more (p ∷ l) zero = omega arith
    not_more (p ∷ l) (suc i) = not_more l i

map_tab : {A B : Type 0} (f : A → B) (g : ℕ → A) (from n : ℕ) → map f (tab_from from n g) ≡ tab_from from n (λ i. f (g i))
map_tab f g from zero = refl
map_tab f g from (suc n) = ap (λ r. f (g from) ∷ r) (map_tab f g (suc from) n)

-- two stores after ys
after : (ys r : List ℕ) (x y : ℕ) → 2 ≤ length r → set (set (ys ++ r) (length ys) x) (suc (length ys)) y ≡ ys ++ (x ∷ y ∷ drop 2 r)
after [] [] x y h = absurd (not-suc-le-zero h)
after [] (p ∷ []) x y h = absurd (not-suc-le-zero (le_of_suc-le-suc h))
after [] (p ∷ q ∷ r) x y h = refl
after (z ∷ ys) r x y h = ap (λ l. z ∷ l) (after ys r x y h)

-- ys in the middle, two stores before them and two after
parts : (d ys : List ℕ) (a b x y : ℕ) → length ys + 4 ≤ length d →
    set (set (set (set (put_mid 2 (length ys) d ys) 0 a) 1 b) (2 + length ys) x) (2 + length ys + 1) y
    ≡ (a ∷ b ∷ []) ++ (ys ++ (x ∷ y ∷ [])) ++ drop (length ys + 4) d
parts [] ys a b x y h = absurd (omega arith)
parts (p ∷ []) ys a b x y h = absurd (omega arith)
parts (p ∷ q ∷ d) ys a b x y h =
    let n = length ys in
    let i : 2 + n ≡ suc (suc n) = omega arith in
    let j : suc (suc n) + 1 ≡ suc (suc (suc n)) = omega arith in
    let k : n + 4 ≡ suc (suc (n + 2)) = omega arith in
    let l : 2 ≤ length (drop n d) = rw (length-drop n d) (omega arith) in
    rw (i, j, k, after ys (drop n d) x y l, drop-drop 2 n d, append_assoc ys (x ∷ y ∷ []) (drop (n + 2) d))

module _ (E : ℕ → ℕ → Bool) (from to c₁ c₂ : ℕ) where
  scores_parts : scores E from to c₁ c₂ ≡
      (score E from to (at c₁ 0) ∷ score E from to (at c₁ 1) ∷ [])
      ++ (swept_scores E from to c₁ (place_count c₁ c₂ - 4) ++ (score E from to (at (c₂ - 4) 3) ∷ score E from to (at (c₂ - 4) 4) ∷ []))
  unfolding scores
  scores_parts =
      let p : ℕ → Place = λ i. at (c₁ + i) 2 in
      let n = place_count c₁ c₂ - 4 in
      ap (map (score E from to)) (places_are c₁ c₂) ∙ rw (map-append (score E from to) (tab n p) _, map_tab (score E from to) p 0 n)

  -- the middle as a part of a list, and the border places at its ends, make the scores
  pub joined : (n : ℕ) (d m u : List ℕ) → n ≡ place_count c₁ c₂ → 4 ≤ n → n ≤ length d →
      m ≡ swept_scores E from to c₁ (length (mid_of 2 (n - 2 - 2) d)) →
      u ≡ bordered E from to c₁ c₂ (n - 2) (put_mid 2 (n - 2 - 2) d m) → AtFront (scores E from to c₁ c₂) d u
  joined n d m u count enough l em eu =
      let ys : List ℕ = swept_scores E from to c₁ (n - 4) in
      let len : length ys ≡ n - 4 = length_tab_from 0 (n - 4) _ in
      let mid : length (mid_of 2 (n - 2 - 2) d) ≡ n - 4 = mid_len 2 (n - 2) d (omega arith) ∙ omega arith in
      let is : m ≡ ys = rw mid at em in
      let k : n - 2 - 2 ≡ length ys = omega arith in
      let o : n - 2 ≡ 2 + length ys = omega arith in
      let t : length ys + 4 ≡ n = omega arith in
      front_by n (length_scores E from to c₁ c₂ ∙ rw count) l
      (eu ∙ rw (k, o, is) (parts d ys _ _ _ _ (omega arith) ∙ rw (t, scores_parts, ← count)))
