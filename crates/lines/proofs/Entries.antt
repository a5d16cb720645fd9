-- Entries of a list with no entry above v: all are counted, and so none of the sorted list is above v. Assumes nothing.
use Prim.Native.Nat.{ℕ, ◌≤◌}
use mathlib.Core.Path.{◌≡◌, refl}
use mathlib.Core.Bool.{Bool, true, false}
use mathlib.Core.List.{List}
use native.Mathlib.Omega.{arith}
use borrow.Author.Tests.{ltb-true, ltb-false}
use lib.Dec.{ltb}
use lib.ListN.{length}
use Rattle.rank.specs.Rank.{self, entry}
use Rattle.rank.specs.Inner.{count_at_most}
use Rattle.rank.proofs.Counts.{count_all}
use Rattle.rank.proofs.Entry.{at_least, entry_none}
use Rattle.lines.specs.Lines.{largest}
use Rattle.lines.proofs.Windows.{largest_at}
use Rattle.binary32.proofs.Values.{in_float_lem}

pub all_counted : (l : List ℕ) (v : ℕ) → largest l ≤ v → count_at_most self v l ≡ length l
all_counted l v h = count_all self v l 0 (λ k b. omega (arith, largest_at l k))

pub entry_le : (l : List ℕ) (v j : ℕ) → largest l ≤ v → entry self 0 l j ≤ v
entry_le l v j h = go (ltb j (length l)) refl
  where
    go : (t : Bool) → ltb j (length l) ≡ t → entry self 0 l j ≤ v
    go true e = let k = ltb-true j (length l) e in at_least self 0 v l j k (omega (arith, all_counted l v h))
    go false e = rw (entry_none self 0 l j (ltb-false j (length l) e)) (omega arith)

-- a score, and an entry of the sorted list, is exact as binary32
pub ruleset exact = (largest_at, all_counted, entry_le, in_float_lem)
