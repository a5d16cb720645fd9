-- Screens and their planes: 01, "Load". A screen is its sides and three planes, each a function of row and column.
use Rattle.std.specs.Prelude.{ℕ, ◌+◌, ◌*◌, ◌/◌, ◌%◌, cond, List, [], Float, length, get_or, take, drop}
use Rattle.std.specs.Float.{nan}
use Rattle.lists.specs.Tab.{grid}
use Rattle.board.specs.Board.{has_channel}

pub record Screen : Type 0 where
  pub height : ℕ
  pub width : ℕ
  pub px : ℕ → ℕ → ℕ → Float

-- the planes of a screen as a list: one after another, each rows first
abbrev pub packed : Screen → List Float
packed s = grid 3 (s.height * s.width) (λ k n. s.px k (n / s.width) (n % s.width))

-- the screen of the given sides that a list of planes holds
abbrev pub view : ℕ → ℕ → List Float → Screen
view h w planes = record { height = h; width = w; px = λ k i j. get_or planes (k * (h * w) + (i * w + j)) nan }

-- the plane of channel k, a part of the planes, or nothing
unfoldable pub channel_of : ℕ → ℕ → List Float → ℕ → List Float
unfolding has_channel
channel_of h w planes k = cond (has_channel h w (length planes) k) (take (h * w) (drop (k * (h * w)) planes)) []
