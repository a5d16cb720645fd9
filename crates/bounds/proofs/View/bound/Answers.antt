use Rattle.std.proofs.Common.{sym, ◌∙◌, arith}
use Rattle.bounds.specs.Scan.{bound}
use Rattle.bounds.specs.Inner.{seen}
use Rattle.bounds.proofs.Scans.{reached_more, reached_end}
use Rattle.bounds.proofs.View.bound.Goals as goal

pub loop-next-preserved : goal.loop-next-preserved
loop-next-preserved g c =
    let i = c.loop-next.invariant in
    let more = reached_more _ _ _ (omega arith) i.across_in i.reached (sym c.move_from.ensures ∙ c.in-Some.is) in
    record { distance_in = omega (arith, more.falls); across_in = more.across_in; reached = more.reached }

pub returns : goal.returns
unfolding bound seen
returns g c =
    let stops = reached_end _ _ _ c.loop-next.invariant.reached (sym c.move_from.ensures ∙ c.in_default.is) in
    rw (c.place_of-2.ensures, ← stops, c.place_of.ensures)
