-- Where bounds lie, for locating: a scan starts in the middle and goes outwards, and a widening goes further outwards. Assumes nothing.
use Prim.Native.Nat.{ℕ, ◌+◌, ◌-◌, ◌*◌, ◌/◌, ◌≤◌, ◌<◌}
use mathlib.Core.Bool.{Bool}
use native.Mathlib.Omega.{arith}
use Rattle.bounds.specs.declared.Beside.{Beside}
use Rattle.bounds.specs.declared.Beside.TheVariants.{Along, Across}
use Rattle.board.specs.declared.Bounds.{Bounds}
use Rattle.bounds.specs.declared.Way.TheVariants.{Near, Far}
use Rattle.lists.specs.Picture.{flip}
use Rattle.bounds.specs.Bounds.{bounds_of, widen, BoundsIn}
use Rattle.bounds.specs.Scan.{bound, place}
use Rattle.bounds.specs.Widen.{widened, sum_at}
use Rattle.bounds.proofs.Scans.{scan_le}
use Rattle.bounds.proofs.Widening.{lowered_le}

-- of `side` places, the middle one is in a to b
pub record Middle (side a b : ℕ) : Type 0 where
  pub low : a ≤ side / 2
  pub high : side / 2 ≤ b
  pub end : b < side

-- of `side` places, those from a to b are in a' to b'
record Encloses (side a b a' b' : ℕ) : Type 0 where
  low : a' ≤ a
  high : b ≤ b'
  end : b' < side

module _ (E : ℕ → ℕ → Bool) (across : ℕ) {along : ℕ} where
  bounds_middle : 0 < along → Middle along (bound Near E across along) (bound Far E across along)
  unfolding bound
  bounds_middle h =
      let far = place Far along in
      let n = scan_le E (across / 3) (2 * across / 3) (along / 2) (along / 2) (across / 3) in
      let f = scan_le (λ p m. E p (far m)) (across / 3) (2 * across / 3) (far (along / 2)) (far (along / 2)) (across / 3) in
      record { low = n; high = omega (arith, f); end = omega arith }

  widened_encloses : (near : Beside) {a b : ℕ} → b < along →
      Encloses along a b (widened near Near E across along a) (widened Along Far E across along b)
  unfolding widened
  widened_encloses near {a} {b} h =
      let far = place Far along in
      let n = lowered_le (sum_at near E across) a in
      let f = lowered_le (sum_at Along (λ p m. E p (far m)) across) (far b) in
      record { low = n; high = omega (arith, f); end = omega arith }

-- bounds around the middle of the picture
pub record Around (row column : ℕ) (b : Bounds) : Type 0 where
  pub rows : Middle row b.r_1 b.r_2
  pub columns : Middle column b.c_1 b.c_2

pub around : (E : ℕ → ℕ → Bool) {row column : ℕ} → 0 < row → 0 < column → Around row column (bounds_of E row column)
around E {row} {column} h k = record { rows = bounds_middle (flip E) column h; columns = bounds_middle E row k }

-- such bounds may be widened
pub within : {row column : ℕ} {b : Bounds} → Around row column b → BoundsIn row column b
within a = record { r_1 = omega arith; r_2 = omega arith; c_1 = omega arith; c_2 = omega arith }

-- spans of at least 4, inside the picture
pub record Wide (row column : ℕ) (b : Bounds) : Type 0 where
  pub rows : b.r_1 + 4 ≤ b.r_2
  pub row_end : b.r_2 < row
  pub columns : b.c_1 + 4 ≤ b.c_2
  pub column_end : b.c_2 < column

-- bounds that need no narrowing are wide after the widening
pub wide : (E : ℕ → ℕ → Bool) {row column : ℕ} {b : Bounds} → 9 ≤ row → 9 ≤ column → BoundsIn row column b →
    row / 3 < b.r_2 - b.r_1 → column / 3 < b.c_2 - b.c_1 → Wide row column (widen E row column b)
wide E {row} {column} {b} h k w r c =
    let rows = widened_encloses (flip E) column Along {a = b.r_1} w.r_2 in
    let columns = widened_encloses E row Across {a = b.c_1} w.c_2 in
    record { rows = omega arith; row_end = rows.end; columns = omega arith; column_end = columns.end }
