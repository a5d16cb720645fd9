-- The first l lists are sifted, and the others are as they were.
use Rattle.std.proofs.Common.{ℕ, min, get_or}
use Rattle.lists.specs.Front.{AtFront}
use Rattle.lists.specs.Tab.{tab}
use Rattle.select.specs.Inner.{between, highest}
use Rattle.select.proofs.sift.Given as goal

abbrev pub invariant-loop-l : goal.invariant-loop-l
invariant-loop-l v =
    let a = λ (m : ℕ). get_or v.initial.lo m 0 in
    let b = λ (m : ℕ). get_or v.initial.hi m 0 in
    let y = λ (m : ℕ). get_or v.initial.row m 0 in
    record {
      low : AtFront (tab v.l (λ m. min (a m) (y m))) v.initial.lo v.lo;
      high : AtFront (tab v.l (λ m. highest (a m) (b m) (y m))) v.initial.hi v.hi;
      here : AtFront (tab v.l (λ m. between (a m) (b m) (y m))) v.initial.row v.row;
    }
