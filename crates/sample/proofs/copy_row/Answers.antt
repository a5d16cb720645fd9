use Rattle.std.proofs.Common.{◌≡◌, length, arith, refl}
use Rattle.lists.proofs.Tab.{length_tab_from}
use Rattle.lists.proofs.Front.{front_more, front_all}
use Rattle.sample.specs.Inner.{row_value}
use Rattle.sample.proofs.copy_row.Goals as goal

pub loop-j-preserved : goal.loop-j-preserved
loop-j-preserved c = front_more _ c.loop-j.j c.loop-j.invariant (omega arith) refl

pub returns : goal.returns
returns c =
    let e : c.loop-j.j ≡ length c.args.columns.now = omega arith in
    let value = row_value c.args.row.now c.args.columns.now in
    rw e at (front_all c.loop-j.invariant (omega (arith, length_tab_from 0 c.loop-j.j value)))
