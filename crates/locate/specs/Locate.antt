-- 01, "Locating" and its refusals, with 02, R-1 and R-3 to R-5: what a call hands back and leaves.
use Rattle.std.specs.Prelude.{ℕ, ◌+◌, ◌*◌, ◌≤◌, ◌≡◌, Bool, cond, ◌||◌, List, [], ◌++◌, eqb, ltb, Float, length, drop, Result, Ok, Err}
use Rattle.lists.specs.Front.{AtFront}
use Rattle.board.specs.declared.Board.{Board}
use Rattle.board.specs.declared.Bounds.{Bounds}
use Rattle.board.specs.declared.Spacing.{Spacing}
use Rattle.board.specs.Board.{least_located, factor_outside, resized, with_reading}
use Rattle.board.specs.Planes.{planes_answer}
use Rattle.reading.specs.declared.Reading.{Reading}
use Rattle.reading.specs.Reading.{pitch_of, quarters_of, line_answer}
use Rattle.locate.specs.declared.Located.{Located}
use Rattle.locate.specs.Reference.{Reference, reference_of}

-- the slices that a call lends, three of them scratch
pub record Lent : Type 0 where
  pub planes : List Float
  pub edges : List ℕ
  pub scores : List ℕ
  pub scratch_f32 : List Float
  pub scratch_u8 : List ℕ
  pub scratch_u32 : List ℕ

abbrev pub lent : List Float → List ℕ → List ℕ → List Float → List ℕ → List ℕ → Lent
lent p e s f b w = record { planes = p; edges = e; scores = s; scratch_f32 = f; scratch_u8 = b; scratch_u32 = w }

-- ---- the checks

-- a slice other than the planes is short
unfoldable pub slices_short : ℕ → ℕ → Lent → Bool
slices_short h w s =
    ltb (length s.edges) (h * w)
    || (ltb (length s.scores) (h + w)
    || (ltb (length s.scratch_f32) (h * w)
    || (ltb (length s.scratch_u8) (h * w) || ltb (length s.scratch_u32) (4 * (h + w)))))

-- 13 a factor outside 2 to 5; then 1, 3, 4, or 0
abbrev pub checked : Board → ℕ → Lent → ℕ
checked b f s =
    cond (factor_outside f) 13
    (planes_answer (least_located f) b.height b.width s.planes (slices_short b.height b.width s))

abbrev pub passes : Board → ℕ → Lent → Bool
passes b f s = eqb (checked b f s) 0

-- ---- what is handed back

-- a refusal: other fields of the record change on 0 alone
abbrev pub declined : Board → ℕ → ℕ → Located
declined b answer narrowed =
    record { board = b; answer = answer; quarterr = 0; quarterc = 0; votesr = 0; votesc = 0; narrowed = narrowed }

abbrev pub spacing : ℕ → ℕ → ℕ → Spacing
spacing q offset count = record { offset = offset; count = count; pitch = pitch_of q }

-- both readings together, with the record as it is by then: columns answer first, rows with 2 more
abbrev pub joined : Board → ℕ → Bounds → Result (Reading ℕ) ℕ → Result (Reading ℕ) ℕ → Located
joined b narrowed bounds (Err n) rows = declined b n narrowed
joined b narrowed bounds (Ok c) (Err n) = declined b (n + 2) narrowed
joined b narrowed bounds (Ok c) (Ok r) =
    record {
      board = with_reading b bounds (spacing r.pitch r.offset r.count) (spacing c.pitch c.offset c.count);
      answer = 0;
      quarterr = r.pitch;
      quarterc = c.pitch;
      votesr = r.votes;
      votesc = c.votes;
      narrowed = narrowed;
    }

-- where the checks passed: 5 where the screen got too small, else what the readings say, with the sides of the last picture
abbrev pub found : Board → Reference → Located
found b g =
    let l = g.last.stage in
    let sized = resized b l.height l.width in
    cond g.last.too_small
    (declined sized 5 l.narrowed)
    (joined sized l.narrowed g.bounds (quarters_of g.columns) (quarters_of g.rows))

-- the same from planes that pass the checks
abbrev pub found_in : Board → ℕ → List Float → Located
found_in b f planes = found b (reference_of f b.height b.width planes)

-- what is written to the score slice where the checks passed: after 5 nothing
abbrev pub scores_of : Reference → List ℕ
scores_of g = cond g.last.too_small [] (g.columns ++ g.rows)

-- ---- the call

-- the reference of a call
abbrev pub reference_for : Board → ℕ → Lent → Reference
reference_for b f s = reference_of f b.height b.width s.planes

-- 02, R-4: both spans are at least 4, and both score lists fit the slices that a call asks for. Of h + w entries at least four stay free,
-- and with 4·(h + w) entries of scratch the reading of either is not refused for its length, its scratch or its entries.
pub record ListsFit (h w : ℕ) (g : Reference) : Type 0 where
  pub columns_span : g.bounds.c_1 + 4 ≤ g.bounds.c_2
  pub rows_span : g.bounds.r_1 + 4 ≤ g.bounds.r_2
  pub scores_in : length g.columns + length g.rows + 4 ≤ h + w
  pub columns_taken : line_answer g.columns (4 * (h + w)) ≡ 0
  pub rows_taken : line_answer g.rows (4 * (h + w)) ≡ 0

-- how much of a scratch slice is free afterwards: what 01 asks for, and nothing where the checks refuse
abbrev pub freed : Board → ℕ → Lent → ℕ → ℕ
freed b f s n = cond (passes b f s) n 0

-- What a call answers and leaves. Where the checks refuse, the record and all slices are as given. Scratch is free up to 01's lengths;
-- entries further on keep their content.
pub record LocateGives (b : Board) (f : ℕ) (before : Lent) (r : Located) (after : Lent) : Type 0 where
  pub located_is : r ≡ cond (passes b f before) (found b (reference_for b f before)) (declined b (checked b f before) 0)
  pub planes_are : after.planes ≡ cond (passes b f before) (reference_for b f before).last.stage.planes before.planes
  pub edges_are : AtFront (cond (passes b f before) (reference_for b f before).edges []) before.edges after.edges
  pub scores_are : AtFront (cond (passes b f before) (scores_of (reference_for b f before)) []) before.scores after.scores
  pub f32_kept : let n = freed b f before (b.height * b.width) in drop n after.scratch_f32 ≡ drop n before.scratch_f32
  pub u8_kept : let n = freed b f before (b.height * b.width) in drop n after.scratch_u8 ≡ drop n before.scratch_u8
  pub u32_kept : let n = freed b f before (4 * (b.height + b.width)) in drop n after.scratch_u32 ≡ drop n before.scratch_u32
