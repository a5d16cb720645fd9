use Rattle.std.proofs.Common.{◌≡◌, ◌-◌, arith}
use Rattle.lists.proofs.Front.{placed_more, front_row}
use Rattle.board.specs.Screen.{view}
use Rattle.gradient.specs.Gradient.{gradient_at}
use Rattle.gradient.proofs.Squares.{place}
use Rattle.gradient.proofs.gradient_of.Goals as goal

pub loop-j-preserved : goal.loop-j-preserved
loop-j-preserved c =
    let here = place _ _ _ _ c.requires.0.sides c.loop-i-test.true c.loop-j-test.true in
    placed_more _ _ c.loop-j.invariant (omega (arith, here.point_in)) c.steepest.ensures

pub loop-i-preserved : goal.loop-i-preserved
loop-i-preserved c =
    let e : c.loop-j.j ≡ c.args.width - 2 = omega arith in
    let value = gradient_at (view c.args.height c.args.width c.args.planes.now).px in
    front_row value _ _ c.loop-i.invariant (rw e at c.loop-j.invariant)
