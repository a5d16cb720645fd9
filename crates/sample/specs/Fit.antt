-- What sampling decides from record and planes alone, in its order: sampling a whole board, and 02, R-6, refuse with it before all else.
use Rattle.std.specs.Prelude.{ℕ, false, cond, List, eqb, Float}
use Rattle.board.specs.declared.Board.{Board}
use Rattle.board.specs.Board.{least_plane_side}
use Rattle.board.specs.Planes.{planes_answer}
use Rattle.sample.specs.Sample.{record_answer}

-- whether record and planes are fit for sampling, whatever is asked of them: 1, 3 and 4 the planes, 10 and 11 the record; 0 if they are
unfoldable pub fit_answer : Board → List Float → ℕ
unfolding planes_answer record_answer
fit_answer b planes =
    let a = planes_answer least_plane_side b.height b.width planes false in
    cond (eqb a 0) (record_answer b) a
