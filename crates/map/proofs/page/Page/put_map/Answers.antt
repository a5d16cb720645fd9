use Rattle.map.proofs.Rows.{map_put}
use Rattle.map.proofs.page.Page.put_map.Goals as goal

pub returns : goal.returns
returns c =
    let page = c.args.self.now in
    map_put page.board page.planes.now page.printable.columns_in c.requires c.put_bytes-next.ensures c.put_numbers-next.ensures
    c.put_rows.ensures
