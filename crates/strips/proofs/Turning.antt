-- A picture turned into scratch: a row of scratch at a time, some rows of the picture at a time. Assumes nothing.
use Prim.Native.Nat.{ℕ, ◌+◌, ◌-◌, ◌*◌, ◌/◌, ◌%◌, ◌≤◌, ◌<◌}
use mathlib.Core.Path.{◌≡◌, sym, ◌∙◌}
use mathlib.Core.List.{List}
use mathlib.Core.Logic.{⊎_elim}
use native.Mathlib.Nat.{zero-add, add-mul, div-add-mod', mul-le-mul_right}
use native.Mathlib.Omega.{arith}
use borrow.Author.Count.{below_more}
use lib.Arith.{digits_lt}
use lib.ListN.{length, take, get_or-eq_default}
use lib.Seq.{get_or-take, length-take-le}
use Rattle.std.proofs.lemmas.Bool.{cases_lt}
use Rattle.lists.specs.Picture.{points}
use Rattle.lists.proofs.Grid.{row_column, row_fits}
use Rattle.lanes.specs.Score.{at, on_strip, score}
use Rattle.lanes.specs.Inner.{Marks}
use Rattle.lanes.proofs.Walks.{least_cost_same}
use Rattle.strips.specs.Inner.{Turns, RowTurned, RowsTurned, Turned}

module _ {e : List ℕ} {first stride b : ℕ} where
  -- one row of scratch more
  pub rows_more : {n i w : ℕ} {r s t : List ℕ} → RowsTurned e first stride n b i w r s → i + w ≤ b →
      RowTurned e first stride b n i w s t → RowsTurned e first stride (n + 1) b i w r t
  rows_more {n} {i} {w} {r} {s} {t} u l c =
      record {
        new = λ j d h q. below_more (λ k. Turns e first stride b k (i + d) t) n
            (λ k g. c.low _ (omega (arith, row_fits k n b g)) ∙ u.new k d g q) (c.new d q) j h;
        old = λ j d h. ⊎_elim
            (λ g. c.high _ (omega (arith, row_fits n j b g)))
            (λ g. c.low _ (omega (arith, mul-le-mul_right b g))) (cases_lt n j) ∙ u.old j d h;
      }

  -- w rows of the picture more
  pub turned_more : {n i w : ℕ} {s t : List ℕ} → Turned e first stride n b i s →
      RowsTurned e first stride n b i w s t → Turned e first stride n b (i + w) t
  turned_more {n} {i} {w} {s} {t} u v =
      record {
        at = λ j d h q. ⊎_elim
            (λ g. v.old j d g ∙ u.at j d h g)
            (λ g. let o : i + (d - i) ≡ d = omega arith in rw o at (v.new j (d - i) h (omega arith))) (cases_lt d i);
      }

  -- turned bytes of 0 and 1 are bytes of 0 and 1
  pub turned_marks : {n : ℕ} {t : List ℕ} → Turned e first stride n b b t → n * b ≤ length t → Marks e → Marks (take (n * b) t)
  turned_marks {n} {t} u h m k =
      ⊎_elim
      (λ l.
      let place = row_column n b k l in
      let o : k ≡ k / b * b + k % b = sym (div-add-mod' k b) in
      rw (get_or-take (n * b) t k 0 l, o, u.at (k / b) (k % b) place.0 place.1) (m _))
      (λ l. rw (get_or-eq_default (take (n * b) t) 0 {n = k} (rw (length-take-le (n * b) t h) l)) (omega arith))
      (cases_lt k (n * b))

-- n + 1 rows of b bytes end with the last place of the last row
pub turned_in : (n b : ℕ) (t : List ℕ) → (n + 1) * b ≤ length t → 0 < b → n * b + (b - 1) * 1 < length (take ((n + 1) * b) t)
turned_in n b t h l = rw (length-take-le ((n + 1) * b) t h) (omega (arith, add-mul n 1 b))

-- b rows of a picture from row r on, turned: the points of its flipped picture from column `from` on
module _ {e : List ℕ} (r : ℕ) {stride : ℕ} (from : ℕ) {n b : ℕ} {t : List ℕ} (u : Turned e (r * stride + from) stride n b b t) where
  turned_point : (i j : ℕ) → i < n → j < b → points b 1 (take (n * b) t) i j ≡ points 1 stride e (from + i) (r + j)
  unfolding points
  turned_point i j h l =
      let o : i * b + j * 1 ≡ i * b + j = omega arith in
      let p : r * stride + from + j * stride + i ≡ (from + i) * 1 + (r + j) * stride = omega (arith, add-mul r j stride) in
      rw (get_or-take (n * b) t (i * b + j * 1) 0 (rw o (digits_lt h l)), o, u.at i j h l, p)

  -- so its strips have the scores of row strips
  pub turned_score : (to : ℕ) → n ≡ to - from + 1 → (i : ℕ) → i + 4 < b →
      score (points b 1 (take (n * b) t)) 0 (to - from) (at (0 + i) 2) ≡ score (points 1 stride e) from to (at (r + i) 2)
  unfolding score
  turned_score to h i l =
      let z : to - from - 0 ≡ to - from = omega arith in
      let p = on_strip (points b 1 (take (n * b) t)) 0 (at (0 + i) 2) in
      let q = on_strip (points 1 stride e) from (at (r + i) 2) in
      rw (z, least_cost_same p q 2 (to - from) same 2 (omega arith))
    where
      same : (k j : ℕ) → k ≤ to - from → j ≤ 4 → points b 1 (take (n * b) t) (0 + k) (0 + i + j) ≡ points 1 stride e (from + k) (r + i + j)
      same k j a c =
          let o : 0 + i + j ≡ i + j = omega arith in
          let p : r + i + j ≡ r + (i + j) = omega arith in
          rw (zero-add k, o, p) (turned_point k (i + j) (omega arith) (omega arith))
