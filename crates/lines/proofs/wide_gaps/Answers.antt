use Rattle.std.proofs.Common.{sym, arith}
use Rattle.std.specs.Slice.Iter.{windows_rest}
use Rattle.lists.proofs.Front.{front_part}
use Rattle.lines.proofs.Collecting.{gaps_done}
use Rattle.lines.proofs.wide_gaps.Goals as goal

pub returns : goal.returns
returns c =
    let i = c.loop-pair.invariant.2 in
    let d = gaps_done (windows_rest c.loop-pair.pair-iterator) i.collected (omega (arith, i.two, c.in-None.ensures.steps)) in
    record { counted = d.0; front = d.1; part = front_part _ (sym d.0) d.1 }
