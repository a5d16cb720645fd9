-- 01, "Narrowing", and 02, R-1: over the factor f, 2 to 5.
use Rattle.std.specs.Prelude.{ℕ, ◌+◌, ◌-◌, ◌*◌, ◌/◌, List, ◌++◌, Float, replicate}
use Rattle.std.specs.Float.{binary32}
use Rattle.std.specs.Float.Ieee.{of_bits}
use Rattle.lists.specs.Front.{over}
use Rattle.lists.specs.Tab.{grid}
use Rattle.rank.specs.Rank.{entry, ranked}
use Rattle.board.specs.Screen.{Screen, packed, view}

-- the f by f block of the plane a that becomes the point (i, j)
abbrev pub block : ℕ → (ℕ → ℕ → Float) → ℕ → ℕ → List Float
block f a i j = grid f f (λ u v. a (i * f + u) (j * f + v))

-- the middle one of the block sorted rising: of nine the fifth smallest, of an even number the upper one
unfoldable pub median : ℕ → (ℕ → ℕ → Float) → ℕ → ℕ → Float
unfolding entry
median f a i j = ranked (block f a i j) (f * f / 2)

-- leftover rows and columns fall away
abbrev pub narrowed : ℕ → Screen → Screen
narrowed f s = record { height = s.height / f; width = s.width / f; px = λ k. median f (s.px k) }

-- the planes afterwards: the narrowed screen, then 0.0 to the old end, then what was there
abbrev pub narrow : ℕ → ℕ → ℕ → List Float → List Float
narrow f h w planes =
    over (packed (narrowed f (view h w planes)) ++ replicate (3 * (h * w) - 3 * (h / f * (w / f))) (of_bits binary32 0)) planes
