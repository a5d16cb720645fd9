-- What is true of every map (02, R-6): marks, levels, what a mark shows, and the room that a map takes. Assumes nothing.
use Prim.Native.Nat.{ℕ, ◌+◌, ◌*◌, ◌≤◌, ◌<◌}
use mathlib.Core.Path.{◌≡◌, refl, sym, ap, ◌∙◌}
use mathlib.Core.Bool.{Bool, true, false, cond, ◌&&◌}
use mathlib.Core.List.{List}
use native.Mathlib.Omega.{arith}
use borrow.Author.Tests.{le-leb, lt-leb, lt-ltb, le-ltb, ltb-false, eq-eqb, ne_eqb}
use lib.Arith.{digits_lt}
use lib.Dec.{eqb, leb, ltb}
use lib.Ieee.{Float, nan}
use lib.ListN.{length, get_or}
use Rattle.lists.proofs.Front.{front_within}
use Rattle.text.proofs.Decimal.{digits_below}
use Rattle.board.specs.declared.Board.{Board}
use Rattle.board.specs.Board.{least_plane_side}
use Rattle.board.specs.Planes.{planes_answer}
use Rattle.board.specs.Screen.{view}
use Rattle.board.proofs.Packed.{length_packed, view_packed}
use Rattle.load.specs.declared.Loaded.{Loaded}
use Rattle.load.specs.Load.{most_byte, shown}
use Rattle.sample.specs.Sample.{row_at, column_at, cell, on_board, cell_answer, sample_answer}
use Rattle.sample.specs.Fit.{fit_answer}
use Rattle.sample.proofs.Answers.{passed_both, cell_in}
use Rattle.sample.proofs.Fit.{fit_sampled, unfit_refused}
use Rattle.map.specs.Map.{line_width, most_rows, green_level, mark_of, mark_at, cell_mark, map_text, print_answer, map_answer}
use Rattle.map.specs.Map.{MarksAre, LevelFits, LevelIsByte, MarkIsSample, most_map_bytes, MapFits}
use Rattle.map.proofs.Level.{level_most, byte_level}
use Rattle.map.proofs.Rows.{counts_length, text_length_lem}
use Rattle.map.proofs.Answers.{Prints, prints}

-- ---- marks and levels

pub marks_are : MarksAre
marks_are =
    record {
      dot = λ n h. rw (le-leb n 42 h);
      colon = λ n l h. rw (lt-leb n 42 l, le-leb n 84 h);
      small_o = λ n l h. rw (lt-leb n 42 (omega arith), lt-leb n 84 l, le-leb n 127 h);
      large_o = λ n l h. rw (lt-leb n 42 (omega arith), lt-leb n 84 (omega arith), lt-leb n 127 l, le-leb n 212 h);
      hash = λ n l h. rw (lt-leb n 42 (omega arith), lt-leb n 84 (omega arith), lt-leb n 127 (omega arith), lt-leb n 212 l);
    }

pub level_fits : (v : Float) → LevelFits v
level_fits v = record { level_fits = λ f u. omega (arith, level_most v f u) }

pub level_is_byte : (h w : ℕ) (pixels : List ℕ) (before : List Float) (r : Loaded) (after : List Float)
    → LevelIsByte h w pixels before r after
level_is_byte h w pixels before r after =
    record {
      level_is = λ loads accepted bytes i j i-in j-in.
          let s = shown most_byte h w pixels in
          let front = rw (eq-eqb r.answer 0 accepted) at loads.planes_are in
          let place : 1 * (h * w) + (i * w + j) < 3 * (h * w) = digits_lt {q = 1} {m = 3} (omega arith) (digits_lt i-in j-in) in
          let value = front_within nan (1 * (h * w) + (i * w + j)) front (omega (arith, place, length_packed s)) in
          ap green_level (value ∙ view_packed s 1 i j (omega arith) i-in j-in)
          ∙ byte_level (get_or pixels (4 * (i * w + j) + 1) 0) (bytes (4 * (i * w + j) + 1));
    }

-- ---- what a mark shows

-- no mark of a level is `?`, so `?` tells what is off the picture
no_question : (n : ℕ) → eqb (mark_of n) 63 ≡ false
no_question n = go (leb n 42) (leb n 84) (leb n 127) (leb n 212)
  where
    go : (a b c d : Bool) → eqb (cond a 46 (cond b 58 (cond c 111 (cond d 79 35)))) 63 ≡ false
    go true b c d = refl
    go false true c d = refl
    go false false true d = refl
    go false false false true = refl
    go false false false false = refl

shows : (inside : Bool) (mark : ℕ) → eqb mark 63 ≡ false → ◌≡◌ {A = ℕ} (cond inside 0 12) (cond (eqb (cond inside mark 63) 63) 12 0)
shows true mark e = rw e
shows false mark e = refl

module _ (b : Board) (planes : List Float) where
  -- the sample is in the picture
  abbrev in_picture : ℕ → ℕ → Bool
  in_picture x y = ltb (row_at b x 1 0) b.height && ltb (column_at b y 1 0) b.width

  sampled_as : (room x y : ℕ) → Prints b planes room → x < b.r → y < b.c → sample_answer b planes x y 1 3 ≡ cond (in_picture x y) 0 12
  unfolding on_board
  sampled_as room x y p x-in y-in =
      let on : on_board b x y ≡ true = rw (lt-ltb x b.r x-in, lt-ltb y b.c y-in) in
      fit_sampled b planes x y 1 3 p.fit (omega (arith, p.printable.rows_in)) (omega (arith, p.printable.columns_in)) (omega arith) on
      (omega arith)

  mark_sampled : (x y : ℕ) → sample_answer b planes x y 1 3 ≡ 0
      → cell_mark b planes x y ≡ mark_of (green_level (get_or (cell b planes x y 1) 1 nan))
  unfolding sample_answer mark_at
  mark_sampled x y e =
      let c = cell_in b x y 1 3 (passed_both (planes_answer least_plane_side b.height b.width planes false) (cell_answer b x y 1 3) e).1 in
      rw (lt-ltb _ _ (c.rows 0 (omega arith)), lt-ltb _ _ (c.columns 0 (omega arith)))

unfit_map : (b : Board) (planes : List Float) (room : ℕ) → (fit_answer b planes ≡ 0 → ⊥) → map_answer b planes room ≡ fit_answer b planes
unfolding map_answer
unfit_map b planes room e = rw (ne_eqb (fit_answer b planes) 0 e) refl

pub mark_is_sample : (b : Board) (planes : List Float) (room x y : ℕ) → MarkIsSample b planes room x y
unfolding mark_at
mark_is_sample b planes room x y =
    let level = green_level ((view b.height b.width planes).px 1 (row_at b x 1 0) (column_at b y 1 0)) in
    record {
      sampled = λ e x-in y-in.
          sampled_as b planes room x y (prints b planes room e) x-in y-in
          ∙ shows (in_picture b planes x y) (mark_of level) (no_question level);
      mark_is = mark_sampled b planes x y;
      refused = λ size values e. unfit_map b planes room e ∙ sym (unfit_refused b planes x y size values e);
    }

-- ---- the room that a map takes

bytes_most : (b : Board) (planes : List Float) → b.c ≤ line_width → b.r ≤ most_rows → length (map_text b planes) ≤ most_map_bytes
bytes_most b planes c r =
    omega (
      arith,
      text_length_lem b planes c,
      counts_length b.r b.c,
      digits_below 3 b.r (omega arith) (omega arith),
      digits_below 1 b.c (omega arith) (omega arith),
    )

-- with room for the longest text, more of it decides nothing
room_same : (b : Board) (planes : List Float) (room : ℕ) → most_map_bytes ≤ room
    → print_answer b planes room ≡ print_answer b planes most_map_bytes
unfolding print_answer
room_same b planes room long = go (ltb line_width b.c) refl (ltb most_rows b.r) refl
  where
    go : (s : Bool) → ltb line_width b.c ≡ s → (t : Bool) → ltb most_rows b.r ≡ t
        → print_answer b planes room ≡ print_answer b planes most_map_bytes
    go true e t f = rw e
    go false e true f = rw (e, f)
    go false e false f =
        let n = length (map_text b planes) in
        let fits = bytes_most b planes (ltb-false line_width b.c e) (ltb-false most_rows b.r f) in
        rw (e, f, le-ltb room n (omega (arith, fits, long)), le-ltb most_map_bytes n fits)

pub map_fits : (b : Board) (planes : List Float) → MapFits b planes
unfolding map_answer
map_fits b planes =
    record {
      bytes_fit = λ room e. let p = (prints b planes room e).printable in bytes_most b planes p.columns_in p.rows_in;
      room_enough = λ room long. ap (λ (n : ℕ). cond (eqb (fit_answer b planes) 0) n (fit_answer b planes)) (room_same b planes room long);
    }
