use Rattle.std.proofs.Common.{◌≡◌, ◌∙◌, sym, length, arith}
use Rattle.lists.proofs.Tab.{length_tab_from}
use Rattle.lists.proofs.Front.{front_row_part, front_all}
use Rattle.lists.proofs.Grid.{row_fits}
use Rattle.sample.specs.Inner.{plane_value}
use Rattle.sample.proofs.Cells.{row_is}
use Rattle.sample.proofs.copy_plane.Goals as goal

pub loop-i-preserved : goal.loop-i-preserved
loop-i-preserved c =
    let a = c.args in
    let value = plane_value a.plane.now a.width a.rows.now a.columns.now in
    front_row_part value c.loop-i.i (length a.columns.now) c.loop-i.invariant
    (omega (arith, row_fits c.loop-i.i (length a.rows.now) (length a.columns.now) c.loop-i-test.true))
    (c.copy_row.ensures ∙ row_is a.plane.now a.width a.rows.now a.columns.now c.loop-i.i c.requires.columns_in)

pub returns : goal.returns
returns c =
    let a = c.args in
    let e : c.loop-i.i ≡ length a.rows.now = omega arith in
    rw e at (front_all c.loop-i.invariant (rw e (length_tab_from 0 _ _ ∙ sym c.requires.room)))
