-- The lines of a map: how long they are, a board row part by part, and the rows one after another. Assumes nothing.
use Prim.Native.Nat.{ℕ, zero, suc, ◌+◌, ◌-◌, ◌*◌, ◌≤◌, ◌<◌}
use mathlib.Core.Path.{◌≡◌}
use mathlib.Core.List.{List, [], ◌∷◌, ◌++◌}
use native.Mathlib.Numerals.{add-one}
use native.Mathlib.Omega.{arith}
use lib.Ieee.{Float}
use lib.ListN.{length, get_or, replicate, length-append, length-replicate}
use Rattle.lists.specs.Tab.{tab, tab_from}
use Rattle.lists.specs.Turn.{in_turn}
use Rattle.lists.proofs.Tab.{length_tab_from, tab_same}
use Rattle.text.specs.Inner.{Puts}
use Rattle.text.specs.Text.{decimal, following, numbers_line}
use Rattle.text.proofs.Writing.{puts_join, Partly, partly_none, partly_room, partly_more}
use Rattle.board.specs.declared.Board.{Board}
use Rattle.sample.specs.Sample.{row_at, column_at}
use Rattle.map.specs.Map.{line_width, mark_at, cell_mark, names_line, row_line, map_text}
use Rattle.map.specs.Inner.{text_length}

module _ (b : Board) (planes : List Float) where
  -- ---- a board row

  pub row_length : (x : ℕ) → b.c ≤ line_width → length (row_line b planes x) ≡ line_width + 1
  unfolding row_line
  row_length x h =
      let marks = length_tab_from 0 b.c (cell_mark b planes x) in
      let spaces = length-replicate {A = ℕ} (line_width - b.c) 32 in
      simp length-append (omega (arith, marks, spaces))

  -- its marks by the places of its cells, the spaces, and the line feed
  pub row_put : (x i : ℕ) (columns : List ℕ) {at m n next : ℕ} {before marked spaced after : List ℕ} → length columns ≡ b.c
      → b.c ≤ line_width → at + (line_width + 1) ≤ length before → i ≡ row_at b x 1 0
      → ((y : ℕ) → y < b.c → get_or columns y 0 ≡ column_at b y 1 0)
      → Puts (tab (length columns) (λ y. mark_at b planes i (get_or columns y 0))) at before m marked
      → Puts (replicate (line_width - length columns) 32) m marked n spaced → Puts (10 ∷ []) n spaced next after
      → Puts (row_line b planes x) at before next after
  unfolding row_line
  row_put x i columns l h room row column marks spaces feed =
      let same : tab (length columns) (λ y. mark_at b planes i (get_or columns y 0)) ≡ tab b.c (cell_mark b planes x) =
      rw l (tab_same b.c _ _ (λ y k. rw (row, column y k))) in
      let long = length-replicate {A = ℕ} (line_width - length columns) 32 in
      let from = length_tab_from 0 (length columns) (λ y. mark_at b planes i (get_or columns y 0)) in
      rw (← same)
      (puts_join marks (puts_join (rw l at spaces) feed (omega (arith, marks.next_is, spaces.next_is, marks.placed.len, long, from, l)))
      (omega (arith, marks.next_is, from, l)))

  -- ---- the rows one after another

  rows_length : (x n : ℕ) → b.c ≤ line_width → length (in_turn (tab_from x n (row_line b planes))) ≡ n * (line_width + 1)
  rows_length x zero h = omega arith
  rows_length x (suc n) h =
      let rest = in_turn (tab_from (suc x) n (row_line b planes)) in
      omega (arith, length-append (row_line b planes x) rest, row_length x h, rows_length (suc x) n h)

  pub all_rows_length : b.c ≤ line_width → length (in_turn (tab b.r (row_line b planes))) ≡ b.r * (line_width + 1)
  all_rows_length = rows_length 0 b.r

  -- row x, and those after it
  abbrev pub lines_from : ℕ → List ℕ
  lines_from x = in_turn (tab_from x (b.r - x) (row_line b planes))

  next_line : (x : ℕ) → x < b.r → lines_from x ≡ row_line b planes x ++ lines_from (x + 1)
  next_line x l = let e : b.r - x ≡ suc (b.r - (x + 1)) = omega arith in rw (e, add-one x)

  pub rows_start : {at : ℕ} {before : List ℕ} → b.c ≤ line_width → at + b.r * (line_width + 1) ≤ length before
      → Partly (in_turn (tab b.r (row_line b planes))) (lines_from 0) at before at before
  rows_start h room = let z : b.r - 0 ≡ b.r = omega arith in rw z (partly_none (omega (arith, all_rows_length h, room)))

  module _ {whole before mid : List ℕ} {at m : ℕ} (x : ℕ) where
    pub row_room : x < b.r → b.c ≤ line_width → Partly whole (lines_from x) at before m mid → m + (line_width + 1) ≤ length mid
    row_room l h p = omega (arith, partly_room (row_line b planes x) _ (rw (next_line x l) at p), row_length x h)

    pub row_more : {after : List ℕ} {next : ℕ} → x < b.r → Partly whole (lines_from x) at before m mid
        → Puts (row_line b planes x) m mid next after → Partly whole (lines_from (x + 1)) at before next after
    row_more l p line = partly_more (row_line b planes x) (rw (next_line x l) at p) line

-- ---- the whole text

pub counts_length : (r c : ℕ) → length (numbers_line (r ∷ c ∷ [])) ≡ length (decimal r) + 1 + length (decimal c) + 1
counts_length r c =
    let column = length-append (32 ∷ decimal c) [] in
    let both = length-append (decimal r) (following (c ∷ [])) in
    omega (arith, length-append (decimal r ++ following (c ∷ [])) (10 ∷ []), both, column)

pub text_length_lem : (b : Board) (planes : List Float) → b.c ≤ line_width → length (map_text b planes) ≡ text_length b.r b.c
unfolding map_text
text_length_lem b planes h =
    let counts = numbers_line (b.r ∷ b.c ∷ []) in
    let rows = in_turn (tab b.r (row_line b planes)) in
    omega (arith, length-append names_line (counts ++ rows), length-append counts rows, all_rows_length b planes h)

-- the names, the counts, and the rows
pub map_put : (b : Board) (planes : List Float) {m n next : ℕ} {before named counted after : List ℕ} → b.c ≤ line_width
    → length (map_text b planes) ≤ length before
    → Puts names_line 0 before m named → Puts (numbers_line (b.r ∷ b.c ∷ [])) m named n counted
    → Puts (in_turn (tab b.r (row_line b planes))) n counted next after
    → Puts (map_text b planes) 0 before next after
unfolding map_text
map_put b planes h room names counts rows =
    let long = text_length_lem b planes h in
    puts_join names (puts_join counts rows (omega (arith, room, long, names.next_is, names.placed.len, counts.next_is)))
    (omega (arith, room, long, names.next_is))
