-- 01, "Locating", widening. As in the scan, m is the distance that is left to the picture's edge.
use Rattle.std.specs.Prelude.{ℕ, zero, suc, ◌+◌, ◌-◌, ◌*◌, ◌/◌, Bool, cond, leb}
use Rattle.lists.specs.Picture.{bit}
use Rattle.bounds.specs.declared.Beside.{Beside}
use Rattle.bounds.specs.declared.Beside.TheVariants.{Along, Across}
use Rattle.bounds.specs.declared.Way.{Way}
use Rattle.bounds.specs.Scan.{place}

-- f at from, from + 1, .., n of them together
abbrev pub total : (ℕ → ℕ) → ℕ → ℕ → ℕ
total f from zero = 0
total f from (suc n) = f from + total f (suc from) n

-- the first distance from m down to 1 whose sum is at most 2, else 1; 0 stays
abbrev pub lowered : (ℕ → ℕ) → ℕ → ℕ
lowered sum zero = 0
lowered sum (suc zero) = 1
lowered sum (suc (suc m)) = cond (leb (sum (suc (suc m))) 2) (suc (suc m)) (lowered sum (suc m))

-- the second point beside (p, m): the next one along the way, at the distance m - 1; for columns to the left the one in the row before
abbrev pub second : Beside → (ℕ → ℕ → Bool) → ℕ → ℕ → Bool
second Along at p m = at p (m - 1)
second Across at p m = at (p - 1) m

-- how many of the two points are set
abbrev pub pair : Beside → (ℕ → ℕ → Bool) → ℕ → ℕ → ℕ
pair b at m p = bit (at p m) + bit (second b at p m)

-- the sum over the middle third across
abbrev pub sum_at : Beside → (ℕ → ℕ → Bool) → ℕ → ℕ → ℕ
sum_at b at across m = total (pair b at m) (across / 3) (2 * across / 3 - across / 3)

-- the place c widened
unfoldable pub widened : Beside → Way → (ℕ → ℕ → Bool) → ℕ → ℕ → ℕ → ℕ
widened b way E across along c = place way along (lowered (sum_at b (λ p m. E p (place way along m)) across) (place way along c))
