use Rattle.std.proofs.Common.{◌≡◌, ℕ, arith, refl}
use Rattle.std.proofs.lemmas.List.{length-replicate}
use Rattle.lists.proofs.Front.{placed_more}
use Rattle.lists.proofs.Part.{tab_replicate}
use Rattle.text.proofs.put_spaces.Goals as goal

pub loop-k-preserved : goal.loop-k-preserved
loop-k-preserved c = placed_more (λ m. 32) c.loop-k.k c.loop-k.invariant (omega (arith, c.loop-k-test.true, c.requires)) refl

pub returns : goal.returns
returns c =
    let e : c.loop-k.k ≡ c.args.n = omega (arith, c.loop-k-test.false) in
    record { next_is = rw length-replicate refl; placed = rw (e, tab_replicate {A = ℕ} c.args.n 32) at c.loop-k.invariant }
