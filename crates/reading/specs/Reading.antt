-- 01, "Lines and votes" and the refusals of line reading: what a list of scores reads as.
use Rattle.std.specs.Prelude.{ℕ, ◌+◌, ◌-◌, ◌*◌, ◌≡◌, cond, ◌||◌, List, leb, ltb, eqb, Float, length, get_or, drop, Result, Ok, Err}
use Rattle.std.specs.Float.{binary32}
use Rattle.std.specs.Float.Ieee.{div, of_bits}
use Rattle.binary32.specs.Binary32.{float, trunc}
use Rattle.reading.specs.declared.Reading.{Reading}
use Rattle.reading.specs.declared.Line.{Line}
use Rattle.lines.specs.Lines.{largest, lines_of, wide_gaps, estimate, drop_first, drop_last}
use Rattle.votes.specs.Votes.{winner}

-- the lines that remain
abbrev pub remaining : List ℕ → List ℕ
remaining s = let e = estimate (lines_of s) in drop_last e (drop_first e (lines_of s))

-- q/4.0
abbrev pub pitch_of : ℕ → Float
pitch_of q = div binary32 (float q) (of_bits binary32 0x40800000)

-- trunc((last − first + 2) / pitch)
abbrev pub count_of : List ℕ → ℕ → ℕ
count_of lines q = trunc (div binary32 (float (get_or lines (length lines - 1) 0 - get_or lines 0 0 + 2)) (pitch_of q))

-- what lines read as, with e
abbrev pub accepted : ℕ → List ℕ → Reading ℕ
accepted e lines =
    let w = winner e lines in
    record { pitch = w.quarter; offset = w.offset; count = count_of lines w.quarter; votes = w.votes }

-- the refusals that the lines call for: 6 where no gap is above 5, 7 where e is 206 or more, else 0
abbrev pub gap_answer : List ℕ → ℕ
gap_answer lines = cond (eqb (length (wide_gaps lines)) 0) 6 (cond (leb 206 (estimate lines)) 7 0)

-- the reading of a list that is fit
unfoldable pub quarters_of : List ℕ → Result (Reading ℕ) ℕ
unfolding lines_of estimate winner
quarters_of s =
    let answer = gap_answer (lines_of s) in
    cond (eqb answer 0) (Ok (accepted (estimate (lines_of s)) (remaining s))) (Err answer)

abbrev pub pitched : Result (Reading ℕ) ℕ → Result (Reading Float) ℕ
pitched (Ok r) = Ok (record { pitch = pitch_of r.pitch; offset = r.offset; count = r.count; votes = r.votes })
pitched (Err n) = Err n

-- the refusals that come before the lines, with scratch of so many entries: 1 the length, 3 the scratch, 11 an entry above 4,096, else 0
abbrev pub line_answer : List ℕ → ℕ → ℕ
line_answer s scratch =
    cond (ltb (length s) 4 || ltb 4096 (length s)) 1
    (cond (ltb scratch (4 * length s)) 3
    (cond (ltb 4096 (largest s)) 11 0))

-- the reading of any list
unfoldable pub reading_of : List ℕ → ℕ → Result (Reading Float) ℕ
unfolding quarters_of
reading_of s scratch =
    let answer = line_answer s scratch in
    cond (eqb answer 0) (pitched (quarters_of s)) (Err answer)

-- 01's number and values for each of the two: the values of a refusal are zeros
abbrev pub line_of : Result (Reading Float) ℕ → Line
line_of (Ok r) = record { answer = 0; pitch = r.pitch; offset = r.offset; count = r.count; votes = r.votes }
line_of (Err n) = record { answer = n; pitch = of_bits binary32 0; offset = 0; count = 0; votes = 0 }

-- the number that a call answers: the refusals in 01's order, else 0
abbrev pub answer_of : List ℕ → ℕ → ℕ
answer_of s scratch =
    let answer = line_answer s scratch in
    cond (eqb answer 0) (gap_answer (lines_of s)) answer

-- what a call hands over, as number and values, and what it leaves of the scratch: beyond four entries for each score all is as it was
pub record LineGives (s before : List ℕ) (r : Line) (after : List ℕ) : Type 0 where
  pub answer_is : r.answer ≡ answer_of s (length before)
  pub line_is : r ≡ line_of (reading_of s (length before))
  pub kept : drop (4 * length s) after ≡ drop (4 * length s) before
