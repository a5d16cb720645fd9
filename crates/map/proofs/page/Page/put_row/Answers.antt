use Rattle.std.proofs.Common.{arith, rules}
use lib.ListN.{length-replicate}
use Rattle.lists.proofs.Tab.{length_tab_from}
use Rattle.map.proofs.Rows.{row_put}
use Rattle.map.proofs.page.Page.put_row.Goals as goal

pub put_feed-requires : goal.put_feed-requires
put_feed-requires c = grind (arith, length_tab_from, length-replicate, c.args.self.now.printable.columns_in)

pub returns : goal.returns
returns c =
    let known = c.requires.columns_known in
    row_put c.args.self.now.board c.args.self.now.planes.now c.args.x _ c.args.columns.now known.0 c.args.self.now.printable.columns_in c.requires.room.1 (search rules) known.1
    c.put_cells-next.ensures c.put_spaces-next.ensures c.put_feed.ensures
