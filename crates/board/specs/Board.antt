-- The board record and its limits: 01, "Load" and "How each operation declines", and 02, R-1, R-2 and R-5.
use Rattle.std.specs.Prelude.{ℕ, max, ◌*◌, ◌≡◌, Bool, not, ◌&&◌, ◌||◌, leb, ltb}
use Rattle.std.specs.Float.{binary32}
use Rattle.std.specs.Float.Ieee.{of_bits}
use Rattle.board.specs.declared.Board.{Board}
use Rattle.board.specs.declared.Bounds.{Bounds}
use Rattle.board.specs.declared.Spacing.{Spacing}

-- the least side of a screen that is loaded
abbrev pub least_side : ℕ
least_side = 12

-- the least side of planes that have a gradient, a channel or samples
abbrev pub least_plane_side : ℕ
least_plane_side = 4

-- the largest side of either
abbrev pub most_side : ℕ
most_side = 4096

-- the largest side of a cell's sample
abbrev pub most_size : ℕ
most_size = 24

-- the factors of a narrowing
abbrev pub least_factor : ℕ
least_factor = 2

abbrev pub most_factor : ℕ
most_factor = 5

-- the least side of a screen that is located with the factor f: a narrowed side is at least 4
abbrev pub least_located : ℕ → ℕ
least_located f = max least_side (4 * f)

-- the code's constants are these limits
pub record LimitsAre (side plane_side most size : ℕ) : Type 0 where
  pub side_is : side ≡ least_side
  pub plane_side_is : plane_side ≡ least_plane_side
  pub most_is : most ≡ most_side
  pub size_is : size ≡ most_size

-- and these its limits of the factor
pub record FactorsAre (least most : ℕ) : Type 0 where
  pub least_is : least ≡ least_factor
  pub most_is : most ≡ most_factor

-- in a fresh record all but the sides is zero
abbrev pub fresh : ℕ → ℕ → Board
fresh h w =
    record {
      height = h;
      width = w;
      r_1 = 0;
      c_1 = 0;
      r_2 = 0;
      c_2 = 0;
      r0 = 0;
      c0 = 0;
      r = 0;
      c = 0;
      pixelr = of_bits binary32 0;
      pixelc = of_bits binary32 0;
    }

-- what a refused load hands back
abbrev pub blank : Board
blank = fresh 0 0

-- the record with other sides
abbrev pub resized : Board → ℕ → ℕ → Board
resized b h w =
    record {
      height = h;
      width = w;
      r_1 = b.r_1;
      c_1 = b.c_1;
      r_2 = b.r_2;
      c_2 = b.c_2;
      r0 = b.r0;
      c0 = b.c0;
      r = b.r;
      c = b.c;
      pixelr = b.pixelr;
      pixelc = b.pixelc;
    }

-- the record with what was read: both corners of the bounds, and the cells of both axes
abbrev pub with_reading : Board → Bounds → Spacing → Spacing → Board
with_reading b bounds rows columns =
    record {
      height = b.height;
      width = b.width;
      r_1 = bounds.r_1;
      c_1 = bounds.c_1;
      r_2 = bounds.r_2;
      c_2 = bounds.c_2;
      r0 = rows.offset;
      c0 = columns.offset;
      r = rows.count;
      c = columns.count;
      pixelr = rows.pitch;
      pixelc = columns.pitch;
    }

-- below the least or above the most
unfoldable pub outside : ℕ → ℕ → ℕ → Bool
outside least most n = ltb n least || ltb most n

unfoldable pub sides_outside : ℕ → ℕ → ℕ → Bool
unfolding outside
sides_outside least h w = outside least most_side h || outside least most_side w

abbrev pub factor_outside : ℕ → Bool
factor_outside f = outside least_factor most_factor f

-- plane k of an h by w screen stands among len values
unfoldable pub has_channel : ℕ → ℕ → ℕ → ℕ → Bool
unfolding sides_outside
has_channel h w len k = leb k 2 && (not (sides_outside least_plane_side h w) && leb (3 * (h * w)) len)
