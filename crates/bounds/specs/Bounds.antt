-- 01, "Bounds scan" and "Locating": the four bounds of a picture, and the same widened. Rows are the columns of the flipped picture.
use Rattle.std.specs.Prelude.{ℕ, ◌<◌, Bool}
use Rattle.lists.specs.Picture.{flip}
use Rattle.bounds.specs.declared.Beside.TheVariants.{Along, Across}
use Rattle.board.specs.declared.Bounds.{Bounds}
use Rattle.bounds.specs.declared.Way.TheVariants.{Near, Far}
use Rattle.bounds.specs.Scan.{bound}
use Rattle.bounds.specs.Widen.{widened}

abbrev pub bounds_of : (ℕ → ℕ → Bool) → ℕ → ℕ → Bounds
bounds_of E row column =
    record {
      r_1 = bound Near (flip E) column row;
      r_2 = bound Far (flip E) column row;
      c_1 = bound Near E row column;
      c_2 = bound Far E row column;
    }

abbrev pub widen : (ℕ → ℕ → Bool) → ℕ → ℕ → Bounds → Bounds
widen E row column b =
    record {
      r_1 = widened Along Near (flip E) column row b.r_1;
      r_2 = widened Along Far (flip E) column row b.r_2;
      c_1 = widened Across Near E row column b.c_1;
      c_2 = widened Along Far E row column b.c_2;
    }

-- bounds inside a picture
pub record BoundsIn (row column : ℕ) (b : Bounds) : Type 0 where
  pub r_1 : b.r_1 < row
  pub r_2 : b.r_2 < row
  pub c_1 : b.c_1 < column
  pub c_2 : b.c_2 < column
