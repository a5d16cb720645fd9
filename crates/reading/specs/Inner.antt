-- For the code alone: no contract of an entry point reaches these.
use Rattle.std.specs.Prelude.{ℕ, ◌+◌, ◌-◌, ◌*◌, ◌≤◌, ◌<◌, ◌≡◌, List, length, get_or, take, drop, Result, Ok, Err}
use Rattle.reading.specs.declared.Gap.{Gap}
use Rattle.reading.specs.declared.Gap.TheVariants.{Missing, Wide}
use Rattle.reading.specs.declared.Reading.{Reading}
use Rattle.reading.specs.declared.Remaining.{Remaining}
use Rattle.lines.specs.Lines.{lines_of, estimate}
use Rattle.reading.specs.Reading.{remaining, gap_answer}

-- why the lines are not read, as `gap_answer` has it
abbrev pub gap_number : Gap → ℕ
gap_number Missing = 6
gap_number Wide = 7

-- what the search asks of e, of the lines that remain, and of the row
pub record Readable (e : ℕ) (lines : List ℕ) (room : ℕ) : Type 0 where
  pub low : 6 ≤ e
  pub high : e < 206
  pub some : 0 < length lines
  pub few : length lines ≤ 4096
  pub entries : (k : ℕ) → get_or lines k 0 ≤ 4095
  pub rising : get_or lines 0 0 ≤ get_or lines (length lines - 1) 0
  pub row : get_or lines 0 0 + 8 ≤ room

-- the lines that remain of s stand in the array from `from` up to `end`, e is that of all lines, and a row as long as four times s
-- is enough to search them
pub record Standing (s array : List ℕ) (from end e : ℕ) : Type 0 where
  pub answer : gap_answer (lines_of s) ≡ 0
  pub rising : from ≤ end
  pub inside : end ≤ length array
  pub lines : take (end - from) (drop from array) ≡ remaining s
  pub gap : e ≡ estimate (lines_of s)
  pub readable : Readable e (remaining s) (4 * length s)

-- what `remaining_of` hands back: a refusal exactly where the lines call for one
abbrev pub RemainingGives : List ℕ → Result Remaining Gap → List ℕ → Type 0
RemainingGives s (Ok k) array = Standing s array k.from k.end k.e
RemainingGives s (Err g) array = gap_number g ≡ gap_answer (lines_of s)

-- a pitch of at most 200
abbrev pub Pitched : Result (Reading ℕ) ℕ → Type 0
Pitched (Ok r) = r.pitch ≤ 800
Pitched (Err n) = Unit
