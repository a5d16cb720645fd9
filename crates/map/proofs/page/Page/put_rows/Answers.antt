use Rattle.std.proofs.Common.{arith}
use Rattle.map.proofs.Rows.{row_room}
use Rattle.map.proofs.page.Page.put_rows.Goals as goal

pub put_row-next-requires-clause-room : goal.put_row-next-requires-clause-room
put_row-next-requires-clause-room c =
    let page = c.args.self.now in
    (omega arith, row_room page.board page.planes.now c.loop-x.x (omega arith) page.printable.columns_in c.loop-x.invariant)
