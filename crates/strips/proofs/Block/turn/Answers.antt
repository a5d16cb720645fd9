use Rattle.std.proofs.Common.{rules, arith, zero-add, ◌+◌, ◌≡◌}
use Rattle.strips.proofs.Turning.{turned_more}
use Rattle.strips.proofs.Block.turn.Goals as goal

pub loop-i-init : goal.loop-i-init
loop-i-init c = (search rules, omega arith, record { at = λ j d h q. rw zero-add at (c.turn_rows.ensures.new j d h q) })

pub loop-i-preserved : goal.loop-i-preserved
loop-i-preserved c = (omega arith, omega arith, turned_more c.loop-i.invariant.2 c.turn_rows-in-loop-i.ensures)

pub returns-2 : goal.returns-2
returns-2 c =
    let e : c.loop-i.i + 8 ≡ c.args.self.now.height = omega arith in
    rw e at (turned_more c.loop-i.invariant.2 c.turn_rows-in-loop-i.ensures)
