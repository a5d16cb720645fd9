-- What the tests of sides and lengths tell. Assumes nothing.
use Prim.Native.Nat.{ℕ, ◌+◌, ◌*◌, ◌≤◌}
use mathlib.Core.Path.{◌≡◌, refl}
use mathlib.Core.Bool.{Bool, true, false, not, cond}
use native.Mathlib.Nat.{mul-le-mul, mul-le-mul_right}
use native.Mathlib.Omega.{arith}
use borrow.Author.Tests.{leb-true, ltb-false, le-ltb}
use lib.Dec.{leb, ltb}
use Rattle.std.proofs.lemmas.Bool.{and_parts, or_parts}
use Rattle.board.specs.Board.{least_plane_side, most_side, least_factor, most_factor, outside, sides_outside, factor_outside, has_channel}
use Rattle.board.specs.Inner.{SidesIn, FactorIn}

-- a check that did not fail, in a chain of checks that answers 0
pub passed : (bad : Bool) (n later : ℕ) → cond bad (n + 1) later ≡ 0 → (bad ≡ false) × (later ≡ 0)
passed true n later e = absurd (omega arith)
passed false n later e = (refl, e)

-- sides that pass the test are within the limits, and the other way round
pub sides_in : (least h w : ℕ) → sides_outside least h w ≡ false → SidesIn least h w
unfolding sides_outside outside
sides_in least h w e =
    let s = or_parts (outside least most_side h) (outside least most_side w) e in
    let a = or_parts (ltb h least) (ltb most_side h) s.0 in
    let b = or_parts (ltb w least) (ltb most_side w) s.1 in
    let high_h = ltb-false most_side h a.1 in
    let high_w = ltb-false most_side w b.1 in
    record {
      low_h = ltb-false h least a.0;
      high_h = high_h;
      low_w = ltb-false w least b.0;
      high_w = high_w;
      area = mul-le-mul high_h high_w;
    }

pub sides_pass : {least h w : ℕ} → SidesIn least h w → sides_outside least h w ≡ false
unfolding sides_outside outside
sides_pass {least} {h} {w} s =
    rw (le-ltb h least s.low_h, le-ltb most_side h s.high_h, le-ltb w least s.low_w, le-ltb most_side w s.high_w)

-- a factor that passes the test is within its limits
pub factor_in : (f : ℕ) → factor_outside f ≡ false → FactorIn f
unfolding outside
factor_in f e =
    let a = or_parts (ltb f least_factor) (ltb most_factor f) e in
    record { low = ltb-false f least_factor a.0; high = ltb-false most_factor f a.1 }

-- a plane that stands among len values
pub record Stands (h w len k : ℕ) : Type 0 where
  pub one : h * w ≤ len
  pub end : k * (h * w) + h * w ≤ len

pub stands : {h w len k : ℕ} → has_channel h w len k ≡ true → Stands h w len k
unfolding has_channel
stands {h} {w} {len} {k} e =
    let a = and_parts (leb k 2) _ e in
    let b = and_parts (not (sides_outside least_plane_side h w)) _ a.1 in
    let l = leb-true (3 * (h * w)) len b.1 in
    let m = mul-le-mul_right (h * w) (leb-true k 2 a.0) in
    record { one = omega arith; end = omega arith }
