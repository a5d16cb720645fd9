-- What a record and planes that are fit for sampling show, and that sampling them is left to the cell. Assumes nothing.
use Rattle.std.proofs.Common.{◌≡◌, ℕ, ◌*◌, ◌≤◌, Bool, true, false, cond, eqb, List, Float, refl, le-ltb}
use borrow.Author.Tests.{eqb-true}
use Rattle.board.specs.declared.Board.{Board}
use Rattle.board.specs.Board.{most_size, least_plane_side}
use Rattle.board.specs.Planes.{planes_answer}
use Rattle.board.specs.Inner.{FitPlanes}
use Rattle.board.proofs.Planes.{planes_fit}
use Rattle.sample.specs.Inner.{RecordIn}
use Rattle.sample.specs.Sample.{most_number, record_answer, numbers_above, on_board, in_picture, cell_answer}
use Rattle.sample.specs.Sample.{sample_answer}
use Rattle.sample.specs.Fit.{fit_answer}
use Rattle.sample.proofs.Answers.{passed_both, record_in, decided}

-- both of what is asked, by itself
pub fit_told : (b : Board) (planes : List Float) → fit_answer b planes ≡ 0
    → (planes_answer least_plane_side b.height b.width planes false ≡ 0) × (record_answer b ≡ 0)
unfolding fit_answer
fit_told b planes e = passed_both (planes_answer least_plane_side b.height b.width planes false) (record_answer b) e

-- record and planes that are fit for sampling
pub fit_shown : (b : Board) (planes : List Float) → fit_answer b planes ≡ 0
    → RecordIn b × FitPlanes least_plane_side b.height b.width planes
fit_shown b planes e =
    let p = fit_told b planes e in
    (record_in b p.1, (planes_fit least_plane_side b.height b.width planes false p.0).0)

-- then a cell on the board, of a size and numbers within their limits, is sampled exactly where its places are in the picture
pub fit_sampled : (b : Board) (planes : List Float) (x y size room : ℕ) → fit_answer b planes ≡ 0 → x ≤ most_number → y ≤ most_number
    → size ≤ most_size → on_board b x y ≡ true → 3 * (size * size) ≤ room
    → sample_answer b planes x y size room
    ≡ cond (in_picture b x y size) 0 12
unfolding sample_answer numbers_above
fit_sampled b planes x y size room e x-in y-in size-in on long =
    let p = fit_told b planes e in
    let n : numbers_above x y size ≡ false =
    rw (le-ltb most_number x x-in, le-ltb most_number y y-in, le-ltb most_size size size-in) in
    rw p.0 (decided b x y size room p.1 n on long)

-- the third of three checks, where one of the first two does not answer 0
later_unasked : (first next later : ℕ) → (cond (eqb first 0) next first ≡ 0 → ⊥)
    → cond (eqb first 0) (cond (eqb next 0) later next) first ≡ cond (eqb first 0) next first
later_unasked first next later h = go (eqb first 0) refl (eqb next 0) refl
  where
    go : (s : Bool) → eqb first 0 ≡ s → (t : Bool) → eqb next 0 ≡ t → cond s (cond t later next) first ≡ cond s next first
    go true e true f = absurd (h (rw e (eqb-true next 0 f)))
    go true e false f = refl
    go false e t f = refl

-- and where they are not fit, that is the answer of every call
pub unfit_refused : (b : Board) (planes : List Float) (x y size room : ℕ) → (fit_answer b planes ≡ 0 → ⊥)
    → sample_answer b planes x y size room ≡ fit_answer b planes
unfolding sample_answer cell_answer fit_answer
unfit_refused b planes x y size room e =
    later_unasked (planes_answer least_plane_side b.height b.width planes false) (record_answer b) _ e
