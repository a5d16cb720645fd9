-- For the code alone: no contract of an entry point reaches this.
use Rattle.std.specs.Prelude.{◌≡◌, true, T, Float}
use Rattle.std.specs.Float.{binary32}
use Rattle.std.specs.Float.Ieee.{fits}
use Rattle.binary32.specs.Binary32.{unit}

-- a value of the format that is a unit
pub record IsUnit (x : Float) : Type 0 where
  pub fit : T (fits binary32 x)
  pub small : unit x ≡ true
