-- Each answer of the definitions by the facts that lead to it, and what an answer of 0 shows. Assumes nothing.
use Prim.Native.Nat.{ℕ, ◌*◌, ◌≤◌, ◌<◌}
use mathlib.Core.Path.{◌≡◌, refl, sym, ap, ◌∙◌}
use mathlib.Core.Bool.{Bool, true, false, cond, ◌||◌}
use mathlib.Core.List.{List}
use native.Mathlib.Omega.{arith}
use borrow.Author.Tests.{eq-eqb, ne_eqb, eqb-true, le-leb, lt-leb, lt-ltb, le-ltb, ltb-false}
use lib.Dec.{ltb, eqb}
use lib.Ieee.{Float}
use lib.ListN.{length, drop}
use Rattle.lines.specs.Lines.{largest, lines_of, wide_gaps, estimate}
use Rattle.lines.specs.Inner.{InLimits}
use Rattle.reading.specs.declared.Reading.{Reading}
use Rattle.std.specs.Prelude.{Result, Ok, Err}
use Rattle.reading.specs.declared.Gap.{Gap}
use Rattle.reading.specs.declared.Gap.TheVariants.{Missing, Wide}
use Rattle.reading.specs.Reading.{remaining, accepted, gap_answer, quarters_of, pitched, line_answer, reading_of, line_of, answer_of, LineGives}
use Rattle.reading.specs.Inner.{gap_number}

-- ---- what the lines call for

module _ (lines : List ℕ) where
  pub no_gap : length (wide_gaps lines) ≡ 0 → 6 ≡ gap_answer lines
  no_gap e = rw (eq-eqb (length (wide_gaps lines)) 0 e)

  pub too_wide : 0 < length (wide_gaps lines) → 206 ≤ estimate lines → 7 ≡ gap_answer lines
  too_wide g h = rw (ne_eqb (length (wide_gaps lines)) 0 (λ e. omega arith), le-leb 206 (estimate lines) h)

  pub gap_fits : 0 < length (wide_gaps lines) → estimate lines < 206 → gap_answer lines ≡ 0
  gap_fits g h = rw (ne_eqb (length (wide_gaps lines)) 0 (λ e. omega arith), lt-leb 206 (estimate lines) h)

-- a list that is fit
module _ (s : List ℕ) where
  pub refused : {n : ℕ} → n ≡ gap_answer (lines_of s) → 0 < n → ◌≡◌ {A = Result (Reading ℕ) ℕ} (Err n) (quarters_of s)
  unfolding quarters_of
  refused {n} e h = rw (← e, ne_eqb n 0 (λ z. omega arith))

  pub read_on : gap_answer (lines_of s) ≡ 0 → Ok (accepted (estimate (lines_of s)) (remaining s)) ≡ quarters_of s
  unfolding quarters_of
  read_on e = rw e

pub gap_some : (g : Gap) → 0 < gap_number g
gap_some Missing = omega arith
gap_some Wide = omega arith

-- the number of what a list reads as
abbrev pub answer_in : Result (Reading ℕ) ℕ → ℕ
answer_in (Ok r) = 0
answer_in (Err n) = n

pub quarters_answer : (s : List ℕ) → answer_in (quarters_of s) ≡ gap_answer (lines_of s)
unfolding quarters_of
quarters_answer s = go (eqb (gap_answer (lines_of s)) 0) refl
  where
    go : (t : Bool) → eqb (gap_answer (lines_of s)) 0 ≡ t → answer_in (quarters_of s) ≡ gap_answer (lines_of s)
    go true p = rw p (sym (eqb-true (gap_answer (lines_of s)) 0 p))
    go false p = rw p

-- ---- what comes before the lines

module _ (s : List ℕ) (room : ℕ) where
  pub too_short : length s < 4 → 1 ≡ line_answer s room
  too_short a = rw (lt-ltb (length s) 4 a)

  pub too_long : 4096 < length s → 1 ≡ line_answer s room
  too_long b = rw (le-ltb (length s) 4 (omega arith), lt-ltb 4096 (length s) b)

  pub no_room : 4 ≤ length s → length s ≤ 4096 → room < 4 * length s → 3 ≡ line_answer s room
  no_room a b c = rw (le-ltb (length s) 4 a, le-ltb 4096 (length s) b, lt-ltb room (4 * length s) c)

  pub too_high : 4 ≤ length s → length s ≤ 4096 → 4 * length s ≤ room → 4096 < largest s → 11 ≡ line_answer s room
  too_high a b c d =
      rw (le-ltb (length s) 4 a, le-ltb 4096 (length s) b, le-ltb room (4 * length s) c, lt-ltb 4096 (largest s) d)

  pub fit_answer_lem : InLimits s → 4 * length s ≤ room → 0 ≡ line_answer s room
  fit_answer_lem f c =
      let short = le-ltb (length s) 4 f.shortest in
      rw (short, le-ltb 4096 (length s) f.longest, le-ltb room (4 * length s) c, le-ltb 4096 (largest s) f.entries)

  -- and back
  pub line_fit : line_answer s room ≡ 0 → InLimits s × (4 * length s ≤ room)
  line_fit = go (ltb (length s) 4) refl (ltb 4096 (length s)) refl (ltb room (4 * length s)) refl (ltb 4096 (largest s)) refl
    where
      go : (a : Bool) → ltb (length s) 4 ≡ a → (b : Bool) → ltb 4096 (length s) ≡ b → (c : Bool) → ltb room (4 * length s) ≡ c
          → (d : Bool) → ltb 4096 (largest s) ≡ d → let n : ℕ = cond (a || b) 1 (cond c 3 (cond d 11 0)) in n ≡ 0
          → InLimits s × (4 * length s ≤ room)
      go true p b q c r d t e = absurd (omega arith)
      go false p true q c r d t e = absurd (omega arith)
      go false p false q true r d t e = absurd (omega arith)
      go false p false q false r true t e = absurd (omega arith)
      go false p false q false r false t e = (
        record { shortest = ltb-false (length s) 4 p; longest = ltb-false 4096 (length s) q; entries = ltb-false 4096 (largest s) t },
        ltb-false room (4 * length s) r,
      )

  pub declined : {n : ℕ} → n ≡ line_answer s room → 0 < n → ◌≡◌ {A = Result (Reading Float) ℕ} (Err n) (reading_of s room)
  unfolding reading_of
  declined {n} e h = rw (← e, ne_eqb n 0 (λ z. omega arith))

  pub taken : line_answer s room ≡ 0 → pitched (quarters_of s) ≡ reading_of s room
  unfolding reading_of
  taken e = rw e

  -- the number of a reading
  reading_answer : (line_of (reading_of s room)).answer ≡ answer_of s room
  unfolding reading_of quarters_of
  reading_answer = go (eqb (line_answer s room) 0) refl (eqb (gap_answer (lines_of s)) 0) refl
    where
      go : (a : Bool) → eqb (line_answer s room) 0 ≡ a → (b : Bool) → eqb (gap_answer (lines_of s)) 0 ≡ b
          → (line_of (reading_of s room)).answer ≡ answer_of s room
      go true p true q = rw (p, q) (sym (eqb-true (gap_answer (lines_of s)) 0 q))
      go true p false q = rw (p, q)
      go false p b q = rw p

-- a reading as number and values
pub line_gives : (s before : List ℕ) {r : Result (Reading Float) ℕ} {after : List ℕ} → r ≡ reading_of s (length before)
    → drop (4 * length s) after ≡ drop (4 * length s) before → LineGives s before (line_of r) after
line_gives s before e k =
    record { answer_is = ap (λ (r : Result (Reading Float) ℕ). (line_of r).answer) e ∙ reading_answer s (length before); line_is = ap line_of e; kept = k }
