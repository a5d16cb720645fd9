use Rattle.std.proofs.Common.{rules, arith, length, ◌≡◌, add_assoc}
use Rattle.lists.proofs.Tab.{length_tab_from}
use Rattle.lists.proofs.Front.{front_all}
use Rattle.strips.proofs.Bands.{front_band}
use Rattle.strips.proofs.banded_scores.Goals as goal

pub loop-i-preserved : goal.loop-i-preserved
loop-i-preserved c =
    (search rules, front_band _ c.loop-i.invariant.1 (omega arith) (omega arith) (omega arith) c.band_scores.ensures (λ j. rw add_assoc))

pub returns : goal.returns
returns c =
    let e : c.loop-i.i ≡ length c.args.out.now = omega arith in
    front_all (rw e at c.loop-i.invariant.1) (length_tab_from 0 _ _)

pub returns-2 : goal.returns-2
returns-2 c =
    front_all
    (front_band _ c.loop-i.invariant.1 (omega arith) (omega arith) (omega arith) c.band_scores.ensures (λ j. rw add_assoc))
    (length_tab_from 0 _ _)
