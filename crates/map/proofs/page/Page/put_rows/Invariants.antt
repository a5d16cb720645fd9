-- Of the rows all is written but those from the next one on.
use Rattle.std.proofs.Common.{◌-◌}
use Rattle.lists.specs.Tab.{tab, tab_from}
use Rattle.text.proofs.Writing.{Partly}
use Rattle.lists.specs.Turn.{in_turn}
use Rattle.map.specs.Map.{row_line}
use Rattle.map.proofs.page.Page.put_rows.Given as goal

abbrev pub invariant-loop-x : goal.invariant-loop-x
invariant-loop-x l =
    let b = l.self.board in
    let line = row_line b l.self.planes.now in
    Partly (in_turn (tab b.r line)) (in_turn (tab_from l.x (b.r - l.x) line)) l.initial.next l.initial.out l.next l.out
