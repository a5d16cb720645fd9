-- For the code alone: counts and a size that products may be taken of. No contract of an entry point reaches it.
use Rattle.std.specs.Prelude.{ℕ, ◌*◌, ◌≤◌}
use Rattle.board.specs.declared.Board.{Board}
use Rattle.board.specs.Board.{most_size}
use Rattle.sample.specs.Sample.{most_number}

-- counts and a size within their limits, and what follows of their products
pub record CountsIn (b : Board) (size : ℕ) : Type 0 where
  pub rows_in : b.r ≤ most_number
  pub columns_in : b.c ≤ most_number
  pub size_in : size ≤ most_size
  pub count_in : b.r * b.c ≤ 16777216
  pub square_in : size * size ≤ 576
  pub values_in : b.r * b.c * (3 * (size * size)) ≤ 28991029248
