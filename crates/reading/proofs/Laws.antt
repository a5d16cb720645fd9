-- What an accepted reading is known to be, for callers: the winner of the lines that remain, with a pitch of at most 200.
-- It rests on what crate lines shows of the lines that remain. Assumes nothing.
use Prim.Native.Nat.{ℕ, ◌-◌, ◌*◌, ◌≤◌, ◌<◌}
use mathlib.Core.Path.{◌≡◌, refl, ◌∙◌}
use mathlib.Core.Bool.{Bool, true, false, cond}
use mathlib.Core.List.{List}
use native.Mathlib.Omega.{arith}
use borrow.Author.Tests.{eqb-false, leb-false, ltb-true, ltb-false}
use lib.Dec.{eqb, leb, ltb}
use lib.ListN.{length, get_or, take, drop, get_or-eq_default}
use Rattle.lists.specs.Front.{AtFront}
use Rattle.lists.proofs.Front.{front_fits, front_inner}
use Rattle.lines.specs.Lines.{lines_of, wide_gaps, estimate}
use Rattle.lines.specs.Inner.{InLimits, Remains}
use Rattle.lines.proofs.Laws.{kept}
use Rattle.lines.proofs.Rising.{Rising, rising_at, rising_length}
use Rattle.votes.specs.Votes.{Wins, winner}
use Rattle.votes.proofs.Laws.{winner_wins}
use Rattle.std.specs.Prelude.{Result, Ok, Err}
use Rattle.reading.specs.declared.Reading.{Reading}
use Rattle.reading.specs.Reading.{remaining, accepted, quarters_of}
use Rattle.reading.specs.Inner.{Readable, Standing, Pitched}
use Rattle.reading.proofs.Answers.{gap_fits, read_on}

low_at : (n : ℕ) (l : List ℕ) → n ≤ 4096 → Rising 0 n l → (k : ℕ) → get_or l k 0 ≤ 4095
low_at n l h r k = go (ltb k (length l)) refl
  where
    go : (t : Bool) → ltb k (length l) ≡ t → get_or l k 0 ≤ 4095
    go true e = omega (arith, rising_at 0 n l k r (ltb-true k (length l) e))
    go false e = rw (get_or-eq_default l 0 {n = k} (ltb-false k (length l) e)) (omega arith)

pub readable : (s : List ℕ) (room : ℕ) → InLimits s → 4 * length s ≤ room → 0 < length (wide_gaps (lines_of s)) → estimate (lines_of s) < 206
    → Readable (estimate (lines_of s)) (remaining s) room
readable s room f r g h =
    let k = kept s f.longest (omega arith) in
    record {
      low = k.e_least;
      high = h;
      some = omega (arith, k.two);
      few = omega (arith, rising_length 0 (length s) (remaining s) k.rising (omega arith), f.longest);
      entries = low_at (length s) (remaining s) f.longest k.rising;
      rising = omega (arith, k.spanned);
      row = omega (arith, k.first, f.shortest);
    }

pub readable_wins : {e : ℕ} {lines : List ℕ} {room : ℕ} → Readable e lines room → Wins lines e (winner e lines)
readable_wins {e} {lines} r = winner_wins e lines r.some r.low (omega (arith, r.high))

pub readable_low : {e : ℕ} {lines : List ℕ} {room : ℕ} → Readable e lines room → (winner e lines).quarter ≤ 800
readable_low r = omega (arith, (readable_wins r).in_range.below)

-- ---- the lines that remain, as a part of the array

pub standing : (s : List ℕ) {lent array : List ℕ} {from end e : ℕ} → InLimits s → AtFront (lines_of s) lent array
    → Remains e (lines_of s) from end → e ≡ estimate (lines_of s) → 0 < length (wide_gaps (lines_of s)) → e < 206
    → Standing s array from end e
standing s {array = array} {from = from} {end = end} {e = e} f h r g some near =
    let low : estimate (lines_of s) < 206 = omega arith in
    let left : take (end - from) (drop from (lines_of s)) ≡ remaining s = rw g at r.is in
    record {
      answer = gap_fits (lines_of s) some low;
      rising = r.rising;
      inside = omega (arith, r.inside, front_fits h);
      lines = front_inner from end h r.rising r.inside ∙ left;
      gap = g;
      readable = rw g (readable s (4 * length s) f (omega arith) some low);
    }

-- what is read of them
pub standing_read : {s array : List ℕ} {from end e : ℕ} {q : Reading ℕ} → Standing s array from end e
    → q ≡ accepted e (take (end - from) (drop from array)) → Ok q ≡ quarters_of s
standing_read {s} h is = rw is (rw (h.lines, h.gap) (read_on s h.answer))

-- ---- what a reading is known to be

-- what holds of both refusals, and of what is read where the lines are readable, holds of the reading
pub by_outcome : (P : Result (Reading ℕ) ℕ → Type 0) (s : List ℕ) → InLimits s → P (Err 6) → P (Err 7)
    → (Readable (estimate (lines_of s)) (remaining s) (4 * length s) → P (Ok (accepted (estimate (lines_of s)) (remaining s))))
    → P (quarters_of s)
unfolding quarters_of
by_outcome P s f no_gap too_wide read = gapped (eqb (length (wide_gaps (lines_of s))) 0) refl (leb 206 (estimate (lines_of s))) refl
  where
    gapped : (t : Bool) → eqb (length (wide_gaps (lines_of s))) 0 ≡ t → (u : Bool) → leb 206 (estimate (lines_of s)) ≡ u
        → let n : ℕ = cond t 6 (cond u 7 0) in P (cond (eqb n 0) (Ok (accepted (estimate (lines_of s)) (remaining s))) (Err n))
    gapped true g u h = no_gap
    gapped false g true h = too_wide
    gapped false g false h =
        let some : 0 < length (wide_gaps (lines_of s)) = omega (arith, eqb-false (length (wide_gaps (lines_of s))) 0 g) in
        read (readable s (4 * length s) f (omega arith) some (leb-false 206 (estimate (lines_of s)) h))

-- an accepted reading is the winner of the lines that remain
abbrev pub Won : List ℕ → Result (Reading ℕ) ℕ → Type 0
Won s (Ok r) = Wins (remaining s) (estimate (lines_of s)) (record { votes = r.votes; offset = r.offset; quarter = r.pitch })
Won s (Err n) = Unit

pub won : (s : List ℕ) → InLimits s → Won s (quarters_of s)
won s f = by_outcome (Won s) s f tt tt readable_wins

won_pitched : (s : List ℕ) (q : Result (Reading ℕ) ℕ) → Won s q → Pitched q
won_pitched s (Ok r) w = omega (arith, w.in_range.below)
won_pitched s (Err n) w = tt

pub quarters_pitched : (s : List ℕ) → InLimits s → Pitched (quarters_of s)
quarters_pitched s f = won_pitched s (quarters_of s) (won s f)
