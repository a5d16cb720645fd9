-- 01, "Bounds scan". One rule serves the four directions. It goes along places, with m the distance that is left to the picture's edge
-- (of 10 columns column 5 has the distance 5 to the left and 4 to the right); `at p m` is the point that lies across at p and along at the
-- distance m. lo to hi is the middle third across, without hi.
use Rattle.std.specs.Prelude.{ℕ, zero, suc, ◌-◌, ◌*◌, ◌/◌, Bool, cond, Option, Some, None, eqb, leb, ltb}
use Rattle.bounds.specs.declared.Spot.{Spot}
use Rattle.bounds.specs.declared.Way.{Way}
use Rattle.bounds.specs.declared.Way.TheVariants.{Near, Far}

-- the first place from `from` on at which k + 1 set points have been seen, among n places; from + n where there are fewer
abbrev pub seen_at : (ℕ → Bool) → ℕ → ℕ → ℕ → ℕ
seen_at set k from zero = from
seen_at set zero from (suc n) = cond (set from) from (seen_at set zero (suc from) n)
seen_at set (suc k) from (suc n) = cond (set from) (seen_at set k (suc from) n) (seen_at set (suc k) (suc from) n)

-- how a scan at the distance m goes on: to a distance and a place across, or not at all
abbrev pub followed : Option Spot → ℕ → (ℕ → ℕ → ℕ) → ℕ
followed None m go = m
followed (Some s) m go = go s.distance s.across

module _ (at : ℕ → ℕ → Bool) (lo hi : ℕ) where
  -- the place across of the fifth set point at the distance m; hi where there are fewer than five
  abbrev pub fifth : ℕ → ℕ
  fifth m = seen_at (λ p. at p m) 4 lo (hi - lo)

  -- to the distance m where it has five set points, and else as given
  abbrev pub jump : ℕ → Option Spot → Option Spot
  jump m other = cond (ltb (fifth m) hi) (Some (record { distance = m; across = fifth m })) other

  -- `tries` skips from `skip` on: stop where the edge is reached, jump where five points are set, and stop where no skip fits
  abbrev pub skips : ℕ → ℕ → ℕ → Option Spot
  skips m skip zero = None
  skips m skip (suc tries) = cond (leb m skip) None (jump (m - skip) (skips m (suc skip) tries))

  abbrev pub move : ℕ → ℕ → Option Spot
  move m p = cond (eqb m 0) None (cond (at p (m - 1)) (Some (record { distance = m - 1; across = p })) (skips m 1 3))

  -- the distance at which the scan stops. Each move lowers m, so m moves are enough.
  abbrev pub scanned : ℕ → ℕ → ℕ → ℕ
  scanned zero m p = m
  scanned (suc moves) m p = followed (move m p) m (scanned moves)

-- the place at the distance m, of `along` places; and the distance of a place
abbrev pub place : Way → ℕ → ℕ → ℕ
place Near along m = m
place Far along m = along - 1 - m

-- where the scan of E stops that starts in the middle of `along` places, with `across` places across
unfoldable pub bound : Way → (ℕ → ℕ → Bool) → ℕ → ℕ → ℕ
bound way E across along =
    let start = place way along (along / 2) in
    place way along (scanned (λ p m. E p (place way along m)) (across / 3) (2 * across / 3) start start (across / 3))
