-- `load::load_planes` meets its contract. The invariant: the first i places of each plane have their value.
use Prim.Native.Nat.{◌≤◌}
use lib.Ieee.{nan}
use Rattle.load.specs.Load.{most_byte}
use Rattle.load.proofs.Planes.{Laid}
use Rattle.load.proofs.Shown.{shown_at}
use Rattle.load.proofs.load_planes.Given as goal

abbrev pub invariant-loop-i : goal.invariant-loop-i
invariant-loop-i l = (l.i ≤ l.n) × Laid nan (shown_at most_byte l.height l.width l.pixels) l.n l.i l.initial.planes l.planes
