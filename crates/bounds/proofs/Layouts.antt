-- Points of a view are entries of the slice, for columns and for rows. Assumes nothing.
use Prim.Native.Nat.{ℕ, ◌+◌, ◌*◌, ◌<◌}
use native.Mathlib.Omega.{arith}
use Rattle.bounds.specs.declared.Layout.{Layout}
use Rattle.bounds.specs.declared.Way.{Way}
use Rattle.bounds.specs.declared.Way.TheVariants.{Near, Far}
use Rattle.bounds.specs.Scan.{place}
use Rattle.bounds.specs.Inner.{Lies}

pub place_below : (way : Way) {along m : ℕ} → m < along → place way along m < along
place_below Near h = h
place_below Far h = omega arith

-- a point of the view is a byte or a gradient of the slice
pub point_in : {v : Layout} {n p m : ℕ} → Lies v n → p < v.across → m < v.along
    → p * v.down + place v.way v.along m * v.right < n
point_in {v} {n} {p} {m} l a b = l.inside p (place v.way v.along m) a (place_below v.way b)
