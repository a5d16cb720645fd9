use Rattle.std.proofs.Common.{◌≤◌, ◌∙◌, arith, sym}
use Rattle.cells.proofs.Cells.{none_outside, not_diagonal, all_diagonal}
use Rattle.cells.proofs.all_in_picture.Goals as goal
use Rattle.cells.proofs.all_in_picture.Goals.{then-b, else-b}

pub returns-then-b-eq0 : goal.returns-then-b-eq0
returns-then-b-eq0 c = sym (none_outside c.args.b c.args.size c.if-b-eq0.true)

pub returns-then-not-in_picture : goal.returns-then-not-in_picture
returns-then-not-in_picture c =
    sym (not_diagonal c.args.b c.args.size c.loop-n.n c.if-b-eq0.false (sym c.in_picture.ensures ∙ c.if-not-in_picture.true))

pub returns : goal.returns
returns c =
    let rows : c.args.b.r ≤ c.if-b.larger = elim c.if-b.branch [ then-b w ↦ omega (arith, w.if-b.true, w.larger-is) | else-b w ↦ omega (arith, w.larger-is) ] in
    let columns : c.args.b.c ≤ c.if-b.larger = elim c.if-b.branch [ then-b w ↦ omega (arith, w.larger-is) | else-b w ↦ omega (arith, w.if-b.false, w.larger-is) ] in
    sym (all_diagonal c.args.b c.args.size c.if-b.larger rows columns (λ n l. c.loop-n.invariant n (omega arith)))
