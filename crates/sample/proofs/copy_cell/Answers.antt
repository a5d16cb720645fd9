use Rattle.std.proofs.Common.{◌∙◌, ◌*◌, arith, rules}
use Rattle.lists.proofs.Front.{front_row_part}
use Rattle.sample.proofs.Answers.{cell_in}
use Rattle.sample.proofs.Cells.{cell_plane, places_are, row_in, column_in, plane_is, plane_fits, plane_room}
use Rattle.sample.proofs.copy_cell.Goals as goal

pub rows-requires : goal.rows-requires
rows-requires c = (cell_in _ _ _ _ _ c.requires.answered).down_in

pub columns-requires : goal.columns-requires
columns-requires c = (cell_in _ _ _ _ _ c.requires.answered).across_in

pub slice_bounds-copy_plane-end-in-loop-k-3 : goal.slice_bounds-copy_plane-end-in-loop-k-3
slice_bounds-copy_plane-end-in-loop-k-3 c =
    omega (arith, plane_fits (cell_in _ _ _ _ _ c.requires.answered) c.loop-k.k c.loop-k-test.true)

pub copy_plane-requires : goal.copy_plane-requires
copy_plane-requires c =
    let p = places_are c.places-rows.result c.places-columns.result (cell_in _ _ _ _ _ c.requires.answered) (search rules) (search rules)
    c.rows.ensures c.places-rows.ensures c.columns.ensures c.places-columns.ensures in
    record {
      room = plane_room c.args.planes.now p c.loop-k.out c.loop-k.k c.loop-k-test.true (omega arith);
      rows_in = λ i. row_in c.args.planes.now p c.loop-k.k i c.requires.planes_there c.loop-k-test.true;
      columns_in = column_in c.args.planes.now p;
    }

pub loop-k-preserved : goal.loop-k-preserved
loop-k-preserved c =
    let s = c.args in
    let p = places_are c.places-rows.result c.places-columns.result (cell_in _ _ _ _ _ c.requires.answered) (search rules) (search rules)
    c.rows.ensures c.places-rows.ensures c.columns.ensures c.places-columns.ensures in
    front_row_part (cell_plane s.b s.planes.now s.x s.y s.size) c.loop-k.k (s.size * s.size) c.loop-k.invariant
    (omega (arith, plane_fits (cell_in _ _ _ _ _ c.requires.answered) c.loop-k.k c.loop-k-test.true))
    (c.copy_plane.ensures ∙ plane_is s.planes.now p c.loop-k.k)
