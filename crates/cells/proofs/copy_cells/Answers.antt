use Rattle.std.proofs.Common.{◌+◌, ◌*◌, ◌≤◌, length, arith}
use borrow.Rule.Slice.PartMut.{mid_len}
use Rattle.lists.proofs.Grid.{row_fits}
use Rattle.lists.proofs.Turn.{front_in_turn}
use Rattle.cells.proofs.Cells.{nth_cell, nth_length, nth_answer, no_values, all_cells}
use Rattle.cells.proofs.copy_cells.Goals as goal

pub returns-then-m-eq0 : goal.returns-then-m-eq0
returns-then-m-eq0 c = no_values c.args.b c.args.planes.now c.args.size c.if-m-eq0.true

pub slice_bounds-copy_cell-end : goal.slice_bounds-copy_cell-end
slice_bounds-copy_cell-end c =
    let s = c.args in
    omega (arith, row_fits c.loop-n.n (s.b.r * s.b.c) (3 * (s.size * s.size)) c.loop-n-test.true, c.requires.room, c.loop-n.invariant.len)

pub copy_cell-requires-clause-answered : goal.copy_cell-requires-clause-answered
copy_cell-requires-clause-answered c =
    let s = c.args in
    let r = c.requires in
    let m = 3 * (s.size * s.size) in
    let at = c.loop-n.n * m in
    let fits : at + m ≤ length c.loop-n.out = omega (arith, row_fits c.loop-n.n (s.b.r * s.b.c) m c.loop-n-test.true, r.room, c.loop-n.invariant.len) in
    nth_answer s.b s.size c.loop-n.n _ r.record_fits r.counts_fit r.within c.loop-n-test.true
    (omega (arith, mid_len at (at + m) c.loop-n.out fits))

pub loop-n-preserved : goal.loop-n-preserved
loop-n-preserved c =
    let s = c.args in
    let m = 3 * (s.size * s.size) in
    front_in_turn m (nth_cell s.b s.planes.now s.size) (nth_length s.b s.planes.now s.size) c.loop-n.n c.loop-n.invariant
    (omega (arith, row_fits c.loop-n.n (s.b.r * s.b.c) m c.loop-n-test.true, c.requires.room, c.loop-n.invariant.len))
    c.copy_cell.ensures

pub returns : goal.returns
returns c = all_cells c.args.b c.args.planes.now c.args.size c.loop-n.n (omega arith) c.loop-n.invariant
