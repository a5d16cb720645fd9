-- What the checks of a cell tell, and what each way out of a call leaves. Assumes nothing.
use Prim.Native.Nat.{ℕ, zero, suc, ◌*◌, ◌≤◌, ◌<◌}
use mathlib.Core.Path.{◌≡◌, refl, sym}
use mathlib.Core.Bool.{Bool, true, false, not, cond, ◌&&◌, ◌||◌}
use mathlib.Core.List.{List}
use native.Mathlib.Nat.{not-suc-le-zero, mul-le-mul}
use native.Mathlib.Omega.{arith}
use borrow.Author.Tests.{ltb-true, ltb-false, lt-ltb, le-ltb, eqb-true, eqb-false, ne_eqb}
use lib.Dec.{ltb, eqb}
use lib.Ieee.{Float}
use lib.ListN.{length, get_or}
use Rattle.std.specs.Bool.{MatchBool}
use Rattle.std.specs.List.{range_with_len, AllWithin, HoldsAt}
use Rattle.std.proofs.lemmas.List.FromFn.{length-range_with_len, get_or-range_with_len}
use Rattle.lists.specs.Front.{AtFront}
use Rattle.lists.proofs.Front.{front_none}
use Rattle.board.specs.declared.Board.{Board}
use Rattle.board.specs.Board.{least_plane_side, most_size}
use Rattle.std.proofs.lemmas.Bool.{and_parts, or_parts}
use Rattle.board.proofs.Sides.{passed}
use Rattle.board.specs.Planes.{planes_answer}
use Rattle.sample.specs.Inner.{RecordIn, AxisIn, CellGives}
use Rattle.sample.specs.Sample.{most_number, row_at, column_at, pitch_outside, corner_above, record_answer, all_below, numbers_above}
use Rattle.sample.specs.Sample.{in_picture, on_board, cell, cell_answer, sample_answer, SampleGives, most_cell_values}

-- two rules that agree below n
pub all_below_same : (f g : ℕ → ℕ) (limit n : ℕ) → ((i : ℕ) → i < n → f i ≡ g i) → all_below f limit n ≡ all_below g limit n
all_below_same f g limit zero h = refl
all_below_same f g limit (suc n) h = rw (all_below_same f g limit n (λ i b. h i (omega arith)), h n (omega arith))

-- what the test tells of each place
pub below_at : (f : ℕ → ℕ) (limit n : ℕ) → all_below f limit n ≡ true → (i : ℕ) → i < n → f i < limit
below_at f limit zero e i b = absurd (not-suc-le-zero b)
below_at f limit (suc n) e i b =
    let d = and_parts (all_below f limit n) (ltb (f n) limit) e in
    go (ltb i n) refl (below_at f limit n d.0 i) (ltb-true (f n) limit d.1)
  where
    go : (t : Bool) → ltb i n ≡ t → (i < n → f i < limit) → f n < limit → f i < limit
    go true q h l = h (ltb-true i n q)
    go false q h l = let s : i ≡ n = omega (arith, ltb-false i n q) in rw s l

-- and a place that is not below
pub not_below : (f : ℕ → ℕ) (limit n i : ℕ) → i < n → limit ≤ f i → all_below f limit n ≡ false
not_below f limit n i b h = go (all_below f limit n) refl
  where
    go : (t : Bool) → all_below f limit n ≡ t → t ≡ false
    go true e = let l = below_at f limit n e i b in absurd (omega arith)
    go false e = refl

all_below_all : (f : ℕ → ℕ) (limit n : ℕ) → ((i : ℕ) → i < n → f i < limit) → all_below f limit n ≡ true
all_below_all f limit zero h = refl
all_below_all f limit (suc n) h = rw (all_below_all f limit n (λ i b. h i (omega arith)), lt-ltb (f n) limit (h n (omega arith)))

-- the same by a search of the numbers below n for one that is not below
pub all_below_by : (f : ℕ → ℕ) (limit n : ℕ) {r : Bool}
    → (let l = range_with_len 0 n in
    MatchBool r (AllWithin (λ i. f i < limit) l 0 (length l)) ((k : ℕ) × (k < length l) × HoldsAt (λ i. limit ≤ f i) l k))
    → r ≡ all_below f limit n
all_below_by f limit n {r = true} h =
    let at : (k : ℕ) → k < n → get_or (range_with_len 0 n) k 0 ≡ k = λ k b. omega (arith, get_or-range_with_len 0 n k 0 b) in
    sym (all_below_all f limit n (λ k b. rw (at k b) at (h k 0 (omega arith) (omega (arith, length-range_with_len 0 n)))))
all_below_by f limit n {r = false} (k, b, above) =
    let k-in : k < n = omega (arith, length-range_with_len 0 n) in
    let e : get_or (range_with_len 0 n) k 0 ≡ k = omega (arith, get_or-range_with_len 0 n k 0 k-in) in
    sym (not_below f limit n k k-in (rw e at (above 0)))

-- a call whose first checks answer 0, and then its later ones
pub passed_both : (first later : ℕ) → cond (eqb first 0) later first ≡ 0 → (first ≡ 0) × (later ≡ 0)
passed_both first later e = go (eqb first 0) refl e
  where
    go : (t : Bool) → eqb first 0 ≡ t → cond t later first ≡ 0 → (first ≡ 0) × (later ≡ 0)
    go true q e = (eqb-true first 0 q, e)
    go false q e = absurd (eqb-false first 0 q e)

at_most : (n : ℕ) → ltb most_number n ≡ false → n ≤ most_number
at_most = ltb-false most_number

-- a record whose answer is 0
pub record_in : (b : Board) → record_answer b ≡ 0 → RecordIn b
unfolding record_answer corner_above
record_in b e =
    let p = passed (pitch_outside b.pixelr || pitch_outside b.pixelc) 9 _ e in
    let n = or_parts _ (ltb most_number b.c0) (passed (corner_above b) 10 0 p.1).0 in
    let d = or_parts _ (ltb most_number b.r0) n.0 in
    let c = or_parts (ltb most_number b.r_1) (ltb most_number b.c_1) d.0 in
    record {
      top_in = at_most b.r_1 c.0;
      left_in = at_most b.c_1 c.1;
      down_in = at_most b.r0 d.1;
      across_in = at_most b.c0 n.1;
    }

-- numbers within the limits
pub record NumbersIn (x y size : ℕ) : Type 0 where
  pub x_in : x ≤ most_number
  pub y_in : y ≤ most_number
  pub size_in : size ≤ most_size
  pub fits : 3 * (size * size) ≤ most_cell_values

pub numbers_in : (x y size : ℕ) → numbers_above x y size ≡ false → NumbersIn x y size
unfolding numbers_above
numbers_in x y size e =
    let f = or_parts _ (ltb most_size size) e in
    let a = or_parts (ltb most_number x) (ltb most_number y) f.0 in
    let s = ltb-false most_size size f.1 in
    record { x_in = at_most x a.0; y_in = at_most y a.1; size_in = s; fits = omega (arith, mul-le-mul s s) }

-- what the answer 0 tells
pub record CellIn (b : Board) (x y size room : ℕ) : Type 0 where
  pub down_in : AxisIn b.r_1 b.r0 x size
  pub across_in : AxisIn b.c_1 b.c0 y size
  pub fits : 3 * (size * size) ≤ most_cell_values
  pub output : 3 * (size * size) ≤ room
  pub rows : (i : ℕ) → i < size → row_at b x size i < b.height
  pub columns : (j : ℕ) → j < size → column_at b y size j < b.width

all_in : (p : Bool) → ◌≡◌ {A = ℕ} (cond p 0 12) 0 → p ≡ true
all_in true e = refl
all_in false e = absurd (omega arith)

pub cell_in : (b : Board) (x y size room : ℕ) → cell_answer b x y size room ≡ 0 → CellIn b x y size room
unfolding cell_answer
cell_in b x y size room e =
    let p = passed_both (record_answer b) _ e in
    let r = record_in b p.0 in
    let a = passed (numbers_above x y size) 10 _ p.1 in
    let n = numbers_in x y size a.0 in
    let c = passed (not (on_board b x y)) 13 _ a.1 in
    let o = passed (ltb room (3 * (size * size))) 2 _ c.1 in
    let rows = all_below (row_at b x size) b.height size in
    let columns = all_below (column_at b y size) b.width size in
    let i = and_parts rows columns (all_in (rows && columns) o.1) in
    record {
      down_in = record { corner_in = r.top_in; offset_in = r.down_in; number_in = n.x_in; size_in = n.size_in };
      across_in = record { corner_in = r.left_in; offset_in = r.across_in; number_in = n.y_in; size_in = n.size_in };
      fits = n.fits;
      output = ltb-false room (3 * (size * size)) o.0;
      rows = below_at (row_at b x size) b.height size i.0;
      columns = below_at (column_at b y size) b.width size i.1;
    }

-- where record and numbers pass and the cell is on the board, the places decide
pub decided : (b : Board) (x y size room : ℕ) → record_answer b ≡ 0 → numbers_above x y size ≡ false → on_board b x y ≡ true
    → 3 * (size * size) ≤ room
    → cell_answer b x y size room ≡ cond (in_picture b x y size) 0 12
unfolding cell_answer
decided b x y size room r n c o = rw (r, n, c, le-ltb _ _ o)

-- ---- the ways out

module _ (b : Board) (planes : List Float) (x y size : ℕ) (before : List Float) where
  pub cell_refused : (n : ℕ) → n ≡ cell_answer b x y size (length before) → (n ≡ 0 → ⊥) → CellGives b planes x y size before n before
  cell_refused n e z = record { answer_is = e; out_is = rw (ne_eqb n 0 z) front_none }

  pub cell_copied : (n : ℕ) (after : List Float) → n ≡ cell_answer b x y size (length before) → n ≡ 0
      → AtFront (cell b planes x y size) before after → CellGives b planes x y size before n after
  cell_copied n after e z h = record { answer_is = e; out_is = rw z h }

  pub refused : (n : ℕ) → n ≡ planes_answer least_plane_side b.height b.width planes false → (n ≡ 0 → ⊥)
      → SampleGives b planes x y size before n before
  unfolding sample_answer
  refused n e z = record { answer_is = rw (← e, ne_eqb n 0 z); out_is = rw (ne_eqb n 0 z) front_none }

  -- fit planes leave the answer to the cell
  pub handed_on : (n : ℕ) (after : List Float) → planes_answer least_plane_side b.height b.width planes false ≡ 0
      → CellGives b planes x y size before n after → SampleGives b planes x y size before n after
  unfolding sample_answer
  handed_on n after e g = record { answer_is = rw e g.answer_is; out_is = g.out_is }
