-- 01, "Locating", first paragraph, and 02, R-1: the loop of narrowings, over the factor f.
use Rattle.std.specs.Prelude.{ℕ, zero, suc, ◌+◌, ◌-◌, ◌/◌, Bool, true, false, cond, ◌||◌, List, leb, Float}
use Rattle.lists.specs.Picture.{points}
use Rattle.edges.specs.Edges.{edges}
use Rattle.narrow.specs.Narrow.{narrow}
use Rattle.board.specs.declared.Bounds.{Bounds}
use Rattle.bounds.specs.Bounds.{bounds_of}

-- a screen on its way through the loop: its sides, the whole slice of planes, and how often it was narrowed
pub record Stage : Type 0 where
  pub height : ℕ
  pub width : ℕ
  pub planes : List Float
  pub narrowed : ℕ

abbrev pub staged : ℕ → ℕ → List Float → ℕ → Stage
staged h w planes n = record { height = h; width = w; planes = planes; narrowed = n }

-- a screen that was not narrowed yet
abbrev pub first : ℕ → ℕ → List Float → Stage
first h w planes = staged h w planes 0

-- a screen's edge picture, as bytes and as a picture, and the bounds of that
abbrev pub edges_at : Stage → List ℕ
edges_at s = edges s.height s.width s.planes

abbrev pub picture_at : Stage → ℕ → ℕ → Bool
picture_at s = points (s.width - 2) 1 (edges_at s)

abbrev pub bounds_at : Stage → Bounds
bounds_at s = bounds_of (picture_at s) (s.height - 2) (s.width - 2)

-- a span of the bounds is at most a third of row or column
unfoldable pub thin : ℕ → ℕ → Bounds → Bool
thin h w b = leb (b.r_2 - b.r_1) ((h - 2) / 3) || leb (b.c_2 - b.c_1) ((w - 2) / 3)

-- row or column is at most 64
unfoldable pub small : ℕ → ℕ → Bool
small h w = leb (h - 2) 64 || leb (w - 2) 64

-- one narrowing
abbrev pub next : ℕ → Stage → Stage
next f s = staged (s.height / f) (s.width / f) (narrow f s.height s.width s.planes) (s.narrowed + 1)

-- where the loop ends, and whether the screen got too small there
pub record Last : Type 0 where
  pub stage : Stage
  pub too_small : Bool

-- one turn: a screen that is not thin is the last one; else it is narrowed, and then it is too small, or the loop goes on
abbrev pub one_turn : ℕ → (Stage → Last) → Stage → Last
one_turn f on s =
    cond (thin s.height s.width (bounds_at s))
    (cond (small (s.height / f) (s.width / f)) (record { stage = next f s; too_small = true }) (on (next f s)))
    (record { stage = s; too_small = false })

-- the loop. A narrowing by 2 or more lowers the height, so as many turns as it has rows are enough: the case without a turn is not met.
abbrev pub looped : ℕ → ℕ → Stage → Last
looped f zero s = record { stage = s; too_small = true }
looped f (suc turns) s = one_turn f (looped f turns) s

unfoldable pub last_of : ℕ → ℕ → ℕ → List Float → Last
unfolding thin small
last_of f h w planes = looped f h (first h w planes)
