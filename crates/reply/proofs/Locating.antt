-- Locating a screen of the program: its checks pass on planes that are fit, in slices for sides up to `most_shown`. Nothing
-- else here speaks of its contract. Assumes nothing.
use Prim.Native.Nat.{ℕ, ◌+◌, ◌*◌, ◌≤◌}
use mathlib.Core.Path.{◌≡◌, ◌∙◌}
use mathlib.Core.Bool.{false}
use native.Mathlib.Nat.{mul-le-mul}
use native.Mathlib.Omega.{arith}
use borrow.Author.Tests.{le-ltb}
use lib.ListN.{length}
use Rattle.board.specs.declared.Board.{Board}
use Rattle.board.specs.Board.{least_side, outside}
use Rattle.board.specs.Inner.{FitPlanes}
use Rattle.board.proofs.Planes.{fit_answer_lem}
use Rattle.locate.specs.declared.Located.{Located}
use Rattle.locate.specs.Locate.{Lent, slices_short, found_in, LocateGives}
use Rattle.header.specs.Header.{most_shown}
use Rattle.reply.specs.Answer.{factor}

-- the area and the two sides of the largest screen
abbrev pub most_area : ℕ
most_area = most_shown * most_shown

abbrev most_sides : ℕ
most_sides = 2 * most_shown

pub area : {h w : ℕ} → h ≤ most_shown → w ≤ most_shown → h * w ≤ most_area
area a b = mul-le-mul a b

pub locates : {b : Board} {before after : Lent} {r : Located} → LocateGives b factor before r after
    → FitPlanes least_side b.height b.width before.planes → b.height ≤ most_shown → b.width ≤ most_shown
    → length before.edges ≡ most_area → length before.scores ≡ most_sides → length before.scratch_f32 ≡ most_area
    → length before.scratch_u8 ≡ most_area
    → length before.scratch_u32 ≡ 4 * most_sides → r ≡ found_in b factor before.planes
unfolding slices_short outside
locates {b} {before} gives fit low wide e s f y q =
    let h = b.height in
    let w = b.width in
    let n = area low wide in
    let short : slices_short h w before ≡ false =
    rw (e, s, f, y, q, le-ltb most_area (h * w) n, le-ltb most_sides (h + w) (omega arith), le-ltb (4 * most_sides) (4 * (h + w)) (omega arith)) in
    gives.located_is ∙ rw (short, fit_answer_lem fit)
