-- The largest entry of a list, and of its parts. Assumes nothing.
use Prim.Native.Nat.{ℕ, zero, suc, ◌≤◌, ◌<◌}
use mathlib.Core.List.{List, [], ◌∷◌}
use native.Mathlib.Omega.{arith}
use lib.ListN.{length, get_or, take, drop}
use Rattle.lines.specs.Lines.{largest}

pub largest_at : (l : List ℕ) (k : ℕ) → get_or l k 0 ≤ largest l
largest_at [] k = omega arith
largest_at (x ∷ l) zero = omega arith
largest_at (x ∷ l) (suc k) = omega (arith, largest_at l k)

pub largest_le : (l : List ℕ) (v : ℕ) → ((k : ℕ) → k < length l → get_or l k 0 ≤ v) → largest l ≤ v
largest_le [] v h = omega arith
largest_le (x ∷ l) v h = omega (arith, h 0 (omega arith), largest_le l v (λ k b. h (suc k) (omega arith)))

pub largest_take : (n : ℕ) (l : List ℕ) → largest (take n l) ≤ largest l
largest_take zero l = omega arith
largest_take (suc n) [] = omega arith
largest_take (suc n) (x ∷ l) = omega (arith, largest_take n l)

pub largest_drop : (n : ℕ) (l : List ℕ) → largest (drop n l) ≤ largest l
largest_drop zero l = omega arith
largest_drop (suc n) [] = omega arith
largest_drop (suc n) (x ∷ l) = omega (arith, largest_drop n l)

pub largest_part : (n k : ℕ) (l : List ℕ) → largest (take n (drop k l)) ≤ largest l
largest_part n k l = omega (arith, largest_take n (drop k l), largest_drop k l)
