-- The columns passed are there.
use Rattle.std.proofs.Common.{◌≡◌, ℕ, ◌<◌, length, get_or}
use Rattle.sample.specs.Sample.{column_at}
use Rattle.map.specs.Map.{line_width}
use Rattle.map.proofs.page.Page.columns.Given as goal

abbrev pub invariant-loop-y : goal.invariant-loop-y
invariant-loop-y l = (length l.columns ≡ line_width) × ((k : ℕ) → k < l.y → get_or l.columns k 0 ≡ column_at l.self.board k 1 0)
