-- Where all entries have a key of at most v, all are counted. Assumes nothing.
use Prim.Native.Nat.{ℕ, suc, ◌≤◌, ◌<◌}
use mathlib.Core.Path.{◌≡◌, refl}
use mathlib.Core.List.{List, [], ◌∷◌}
use native.Mathlib.Omega.{arith}
use borrow.Author.Tests.{le-leb}
use lib.ListN.{length, get_or}
use Rattle.rank.specs.Inner.{count_at_most}

pub count_all : {A : Type 0} (key : A → ℕ) (v : ℕ) (l : List A) (d : A) → ((k : ℕ) → k < length l → key (get_or l k d) ≤ v)
    → count_at_most key v l ≡ length l
count_all key v [] d h = refl
count_all key v (x ∷ l) d h =
    let ih = count_all key v l d (λ k b. h (suc k) (omega arith)) in
    rw (le-leb (key x) v (h 0 (omega arith))) (omega arith)
