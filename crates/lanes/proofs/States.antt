-- The states of a strip: a row's points added, a sideways step, and both together as one row more of `least_cost`. Assumes nothing.
use Prim.Native.Nat.{ℕ, suc, ◌+◌, ◌-◌, ◌*◌, ◌≤◌, ◌<◌}
use mathlib.Core.Path.{◌≡◌, subst, fun_ext}
use mathlib.Core.Bool.{Bool, not}
use mathlib.Core.List.{List}
use lib.ListN.{get_or}
use native.Mathlib.Nat.{mul-le-mul_right, add-mul}
use native.Mathlib.Omega.{arith}
use lib.Dec.{eqb}
use Rattle.lists.specs.Picture.{bit, points}
use Rattle.lists.proofs.Picture.{bit_le}
use Rattle.lanes.specs.declared.Lanes.{Lanes}
use Rattle.lanes.specs.Score.{Place, at, onward, least_cost, on_strip, score}
use Rattle.lanes.specs.Inner.{LanesHold, Below, unset, Advanced, Walked}
use Rattle.lanes.proofs.Walks.{least_cost_stays}

-- a point adds at most 1 to a cost
pub below_more : (e : List ℕ) (o across n : ℕ) (cost : ℕ → ℕ) → Below n cost → Below (n + 1) (λ j. cost j + unset e (o + j * across))
below_more e o across n cost l j h = omega (arith, l j h, bit_le (not (eqb (get_or e (o + j * across) 0) 1)))

-- what the target lane holds after the last step is 5 more than the score
pub lane_score : {E : ℕ → ℕ → Bool} {from row : ℕ} {p : Place} {v : Lanes} (to x : ℕ) → Walked E from p row v → row ≡ to →
    ((n : ℕ) (cost : ℕ → ℕ) → LanesHold n cost v → x + cost p.lane ≡ n) → (5 ≤ x) × (x - 5 ≡ score E from to p)
unfolding score
lane_score {E} {from} {row} {p} to x w e h =
    let l = least_cost_stays (on_strip E from p) p.lane (row - from) p.lane in
    let s = h _ _ w.lanes in
    rw (← e) (omega (arith, l, s), omega (arith, l, s))

-- the row below `row` ends within the picture if the last row does
pub row_in : (row to down across c last n : ℕ) → row < to → c + 4 ≤ last → to * down + last * across < n →
    (row + 1) * down + c * across + 4 * across < n
row_in row to down across c last n l k h =
    let q : row + 1 ≤ to = omega arith in
    omega (arith, mul-le-mul_right down q, mul-le-mul_right across k, add-mul c 4 across)

-- one strip of a picture of bytes
module _ (e : List ℕ) (down across from c k : ℕ) where
  abbrev strip : ℕ → ℕ → Bool
  strip = on_strip (points down across e) from (at c k)

  -- the points of step t, on to row `row`, lie from o on
  point_at : (t row o j : ℕ) → row ≡ from + t → o ≡ row * down + c * across → unset e (o + j * across) ≡ bit (not (strip t j))
  unfolding points
  point_at t row o j r q =
      let i : o + j * across ≡ row * down + (c + j) * across = rw q (omega (arith, add-mul c j across)) in
      rw (i, r)

  -- one row more
  pub row_more : (row o : ℕ) (v w : Lanes) → k ≤ 4 → from ≤ row → o ≡ (row + 1) * down + c * across →
      Walked (points down across e) from (at c k) row v →
      Advanced e o across v w → Walked (points down across e) from (at c k) (row + 1) w
  row_more row o v w l f q h a =
      let t = row - from in
      let low : Below (t + 5) (least_cost strip k t) = λ j b. omega (arith, least_cost_stays strip k t j) in
      let i : ◌≡◌ {A = ℕ → ℕ} (λ j. unset e (o + j * across)) (λ j. bit (not (strip (suc t) j))) =
      fun_ext (λ j. point_at (suc t) (row + 1) o j (omega arith) q) in
      let n : t + 5 + 1 ≡ suc t + 5 = omega arith in
      let next : row + 1 - from ≡ suc t = omega arith in
      record {
        lanes =
            rw next
            (subst (λ (u : ℕ → ℕ). LanesHold (suc t + 5) (onward (λ j. least_cost strip k t j + u j)) w) i
            (rw n at (a (t + 5) (least_cost strip k t) low h.lanes)));
      }
