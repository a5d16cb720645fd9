-- What the checks of a board's counts and size tell, which cells decide whether all are in the picture, and how the cells follow one
-- another. Assumes nothing.
use Prim.Native.Nat.{ℕ, zero, suc, ◌+◌, ◌*◌, ◌/◌, ◌%◌, ◌≤◌, ◌<◌}
use mathlib.Core.Path.{◌≡◌, refl, sym, ◌∙◌}
use mathlib.Core.Bool.{Bool, true, false, cond}
use mathlib.Core.List.{List}
use native.Mathlib.Nat.{mul-le-mul, mod-lt, mul-zero, zero-mul}
use Rattle.std.proofs.Math.Nat.{mod-eq_of_lt}
use native.Mathlib.Omega.{arith}
use borrow.Author.Tests.{ltb-false, le-ltb, lt-ltb}
use lib.Arith.{digits_lt, digits_div, digits_mod}
use lib.Dec.{ltb}
use lib.Ieee.{Float}
use lib.ListN.{length}
use Rattle.std.specs.List.{list_all}
use Rattle.std.proofs.lemmas.List.{nil_from_length}
use Rattle.std.proofs.lemmas.List.Folds.{list_all-append, list_all_at}
use Rattle.std.proofs.lemmas.Bool.{and_parts, or_parts, true≢false, true_from_ne_false}
use Rattle.lists.specs.Front.{AtFront}
use Rattle.lists.specs.Tab.{tab}
use Rattle.lists.specs.Turn.{in_turn}
use Rattle.lists.proofs.Front.{front_none}
use Rattle.lists.proofs.Turn.{length_in_turn}
use Rattle.lists.proofs.Tab.{length_tab_from, get_or_tab}
use Rattle.lists.proofs.Grid.{tab_more, row_column}
use Rattle.board.specs.declared.Board.{Board}
use Rattle.board.specs.Board.{most_size}
use Rattle.board.proofs.Sides.{passed}
use Rattle.sample.specs.Sample.{most_number, record_answer, all_below, row_at, column_at, in_picture, on_board, numbers_above, cell, cell_answer}
use Rattle.sample.proofs.Answers.{decided}
use Rattle.cells.specs.Cells.{board_numbers_above, all_in_picture, cells_answer, cells}
use Rattle.cells.specs.Inner.{CountsIn}

pub counts_in : (b : Board) (size : ℕ) → board_numbers_above b size ≡ false → CountsIn b size
unfolding board_numbers_above
counts_in b size e =
    let s = or_parts _ (ltb most_size size) e in
    let c = or_parts (ltb most_number b.r) (ltb most_number b.c) s.0 in
    let rows = ltb-false most_number b.r c.0 in
    let columns = ltb-false most_number b.c c.1 in
    let size_in = ltb-false most_size size s.1 in
    let values : size * size ≤ 576 = omega (arith, mul-le-mul size_in size_in) in
    let cells : b.r * b.c ≤ 16777216 = omega (arith, mul-le-mul rows columns) in
    let three : 3 * (size * size) ≤ 1728 = omega arith in
    record {
      rows_in = rows;
      columns_in = columns;
      size_in = size_in;
      count_in = cells;
      square_in = values;
      values_in = omega (arith, mul-le-mul cells three);
    }

-- what the answer 0 tells
pub record CellsIn (b : Board) (size room : ℕ) : Type 0 where
  pub counts : CountsIn b size
  pub room_is : b.r * b.c * (3 * (size * size)) ≤ room
  pub within : all_in_picture b size ≡ true

is_in : (p : Bool) → ◌≡◌ {A = ℕ} (cond p 0 12) 0 → p ≡ true
is_in true e = refl
is_in false e = absurd (omega arith)

pub cells_in : (b : Board) (size room : ℕ) → cells_answer b size room ≡ 0 → CellsIn b size room
unfolding cells_answer
cells_in b size room e =
    let n = passed (board_numbers_above b size) 10 _ e in
    let o = passed (ltb room (b.r * b.c * (3 * (size * size)))) 2 _ n.1 in
    record { counts = counts_in b size n.0; room_is = ltb-false room _ o.0; within = is_in (all_in_picture b size) o.1 }

-- and what the answer 12 does
is_out : (p : Bool) → ◌≡◌ {A = ℕ} (cond p 0 12) 12 → p ≡ false
is_out true e = absurd (omega arith)
is_out false e = refl

pub cells_out : (b : Board) (size room : ℕ) → cells_answer b size room ≡ 12 → CountsIn b size × (all_in_picture b size ≡ false)
unfolding cells_answer
cells_out b size room e = go (board_numbers_above b size) refl (ltb room (b.r * b.c * (3 * (size * size)))) refl
  where
    go : (s : Bool) → board_numbers_above b size ≡ s → (t : Bool) → ltb room (b.r * b.c * (3 * (size * size))) ≡ t
        → CountsIn b size × (all_in_picture b size ≡ false)
    go true p t q = let f : 11 ≡ 12 = sym (rw p refl) ∙ e in absurd (omega (arith, f))
    go false p true q = let f : 3 ≡ 12 = sym (rw (p, q) refl) ∙ e in absurd (omega (arith, f))
    go false p false q = (counts_in b size p, is_out (all_in_picture b size) (rw (p, q) at e))

-- ---- whether all are in the picture

-- cell n, rows first
abbrev pub nth_within : Board → ℕ → ℕ → Bool
nth_within b size n = in_picture b (n / b.c) (n % b.c) size

-- the first n cells are in the picture
abbrev pub first_within : Board → ℕ → ℕ → Bool
first_within b size n = list_all (λ within. within) (tab n (nth_within b size))

within_next : (b : Board) (size n : ℕ) → first_within b size n ≡ true → nth_within b size n ≡ true → first_within b size (n + 1) ≡ true
within_next b size n h e =
    rw (tab_more n (nth_within b size)) (list_all-append (λ within. within) (tab n (nth_within b size)) _ ∙ rw (h, e) refl)

not_within : (b : Board) (size n : ℕ) → n < b.r * b.c → nth_within b size n ≡ false → all_in_picture b size ≡ false
unfolding all_in_picture
not_within b size n h e =
    let all = b.r * b.c in
    list_all_at (λ within. within) (tab all (nth_within b size)) n true (omega (arith, length_tab_from 0 all (nth_within b size)))
    (get_or_tab all n (nth_within b size) true h ∙ e)

each_within : (b : Board) (size n : ℕ) → all_in_picture b size ≡ true → n < b.r * b.c → nth_within b size n ≡ true
each_within b size n e h = true_from_ne_false (nth_within b size n) (λ q. true≢false (sym e ∙ not_within b size n h q))

-- the cell in board row n and board column n, both begun anew past the last one
abbrev pub diagonal : Board → ℕ → ℕ → Bool
diagonal b size n = in_picture b (n % b.r) (n % b.c) size

positive : (m n : ℕ) → (m * n ≡ 0 → ⊥) → (0 < m) × (0 < n)
positive zero n z = absurd (z (zero-mul n))
positive (suc m) zero z = absurd (z (mul-zero (suc m)))
positive (suc m) (suc n) z = (omega arith, omega arith)

pub not_diagonal : (b : Board) (size n : ℕ) → (b.r * b.c ≡ 0 → ⊥) → diagonal b size n ≡ false → all_in_picture b size ≡ false
not_diagonal b size n z e =
    let x = n % b.r in
    let y = n % b.c in
    let some = positive b.r b.c z in
    let x-in : x < b.r = mod-lt n some.0 in
    let y-in : y < b.c = mod-lt n some.1 in
    not_within b size (x * b.c + y) (digits_lt x-in y-in) (rw (digits_div x y-in, digits_mod x y-in) e)

-- board rows and board columns that all have a cell in the picture
module _ (b : Board) (size more : ℕ) (rows : b.r ≤ more) (columns : b.c ≤ more) (h : (n : ℕ) → n < more → diagonal b size n ≡ true) where
  row_within : (x : ℕ) → x < b.r → all_below (row_at b x size) b.height size ≡ true
  row_within x l =
      let p = and_parts _ (all_below (column_at b (x % b.c) size) b.width size) (h x (omega arith)) in
      rw (mod-eq_of_lt l) at p.0

  column_within : (y : ℕ) → y < b.c → all_below (column_at b y size) b.width size ≡ true
  column_within y l =
      let p = and_parts (all_below (row_at b (y % b.r) size) b.height size) _ (h y (omega arith)) in
      rw (mod-eq_of_lt l) at p.1

  within_first : (n : ℕ) → n ≤ b.r * b.c → first_within b size n ≡ true
  within_first zero l = refl
  within_first (suc n) l =
      let at = row_column b.r b.c n l in
      let e : n + 1 ≡ suc n = omega arith in
      let here : nth_within b size n ≡ true = rw (row_within (n / b.c) at.0, column_within (n % b.c) at.1) refl in
      rw e at (within_next b size n (within_first n (omega arith)) here)

  pub all_diagonal : all_in_picture b size ≡ true
  unfolding all_in_picture
  all_diagonal = within_first (b.r * b.c) (omega arith)

pub none_outside : (b : Board) (size : ℕ) → b.r * b.c ≡ 0 → all_in_picture b size ≡ true
unfolding all_in_picture
none_outside b size e = rw e refl

-- where not all are in the picture, there is one that is not
first_outside : (b : Board) (size n : ℕ) → first_within b size n ≡ false → (k : ℕ) × (k < n) × (nth_within b size k ≡ false)
first_outside b size zero e = absurd (true≢false e)
first_outside b size (suc n) e = go (first_within b size n) refl (nth_within b size n) refl (first_outside b size n)
  where
    go : (s : Bool) → first_within b size n ≡ s → (t : Bool) → nth_within b size n ≡ t
        → (first_within b size n ≡ false → (k : ℕ) × (k < n) × (nth_within b size k ≡ false))
        → (k : ℕ) × (k < suc n) × (nth_within b size k ≡ false)
    go false p t q f = let k = f p in (k.0, omega (arith, k.1), k.2)
    go true p false q f = (n, omega arith, q)
    go true p true q f = let m : n + 1 ≡ suc n = omega arith in absurd (true≢false (sym (rw m at (within_next b size n p q)) ∙ e))

pub one_outside : (b : Board) (size : ℕ) → all_in_picture b size ≡ false → (k : ℕ) × (k < b.r * b.c) × (nth_within b size k ≡ false)
unfolding all_in_picture
one_outside b size e = first_outside b size (b.r * b.c) e

-- ---- the cells one after another

-- cell n, rows first
abbrev pub nth_cell : Board → List Float → ℕ → ℕ → List Float
nth_cell b planes size n = cell b planes (n / b.c) (n % b.c) size

pub nth_length : (b : Board) (planes : List Float) (size n : ℕ) → length (nth_cell b planes size n) ≡ 3 * (size * size)
nth_length b planes size n = length_tab_from 0 (3 * (size * size)) _

-- what sampling decides of each of them, in the part of the output that it is lent
nth_decided : (b : Board) (size n room : ℕ) → record_answer b ≡ 0 → CountsIn b size → n < b.r * b.c → 3 * (size * size) ≤ room
    → cell_answer b (n / b.c) (n % b.c) size room ≡ cond (nth_within b size n) 0 12
unfolding numbers_above on_board
nth_decided b size n room r c h long =
    let at = row_column b.r b.c n h in
    let x = n / b.c in
    let y = n % b.c in
    let numbers : numbers_above x y size ≡ false =
    rw (le-ltb most_number x (omega (arith, at.0, c.rows_in)), le-ltb most_number y (omega (arith, at.1, c.columns_in)), le-ltb most_size size c.size_in) refl in
    let on : on_board b x y ≡ true = rw (lt-ltb x b.r at.0, lt-ltb y b.c at.1) refl in
    decided b x y size room r numbers on long

pub nth_answer : (b : Board) (size n room : ℕ) → record_answer b ≡ 0 → CountsIn b size → all_in_picture b size ≡ true → n < b.r * b.c
    → 3 * (size * size) ≤ room
    → cell_answer b (n / b.c) (n % b.c) size room ≡ 0
nth_answer b size n room r c e h long = nth_decided b size n room r c h long ∙ rw (each_within b size n e h) refl

-- and of one that is not in the picture
pub nth_outside : (b : Board) (size n : ℕ) → record_answer b ≡ 0 → CountsIn b size → n < b.r * b.c → nth_within b size n ≡ false
    → cell_answer b (n / b.c) (n % b.c) size (3 * (size * size)) ≡ 12
nth_outside b size n r c h e = nth_decided b size n (3 * (size * size)) r c h (omega arith) ∙ rw e refl

pub cells_length : (b : Board) (planes : List Float) (size : ℕ) → length (cells b planes size) ≡ b.r * b.c * (3 * (size * size))
unfolding cells
cells_length b planes size = length_in_turn (3 * (size * size)) (nth_cell b planes size) (nth_length b planes size) (b.r * b.c)

-- cells without values are written at once
pub no_values : (b : Board) (planes : List Float) (size : ℕ) {before : List Float} → 3 * (size * size) ≡ 0
    → AtFront (cells b planes size) before before
no_values b planes size e =
    let n : length (cells b planes size) ≡ 0 = cells_length b planes size ∙ rw e (mul-zero (b.r * b.c)) in
    rw (nil_from_length (cells b planes size) n) front_none

pub all_cells : (b : Board) (planes : List Float) (size n : ℕ) {before after : List Float} → n ≡ b.r * b.c
    → AtFront (in_turn (tab n (nth_cell b planes size))) before after
    → AtFront (cells b planes size) before after
unfolding cells
all_cells b planes size n e h = rw e at h
