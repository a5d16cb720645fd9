-- 01, "Gradient and threshold", second paragraph. g is the list of gradients, `row` rows of `column` each.
use Rattle.std.specs.Prelude.{ℕ, ◌+◌, ◌-◌, ◌*◌, ◌/◌, cond, List, Float, length, get_or}
use Rattle.std.specs.Float.{nan, binary32}
use Rattle.std.specs.Float.Ieee.{lt, le, mul, of_bits}
use Rattle.lists.specs.Tab.{tab, grid}
use Rattle.lists.specs.Picture.{bit}
use Rattle.binary32.specs.Binary32.{float, trunc}
use Rattle.rank.specs.Rank.{entry, ranked}
use Rattle.gradient.specs.Gradient.{gradients}

-- how many of a side's places lie in its middle half, which begins at side / 4
abbrev pub middle : ℕ → ℕ
middle side = 3 * side / 4 - side / 4

-- the gradients of the middle half of the rows and of the columns, rows first
abbrev pub sample : ℕ → ℕ → List Float → List Float
sample row column g = grid (middle row) (middle column) (λ i j. get_or g ((row / 4 + i) * column + (column / 4 + j)) nan)

-- 0.55 · m without its fraction: the place in the sorted sample of m
unfoldable pub rank_of : ℕ → ℕ
rank_of m = trunc (mul binary32 (float m) (of_bits binary32 0x3F0CCCCD))

-- 1.0 if above it, 0.01 if below that
unfoldable pub clip : Float → Float
clip t =
    cond (lt (of_bits binary32 0x3F800000) t) (of_bits binary32 0x3F800000)
    (cond (lt t (of_bits binary32 0x3C23D70A)) (of_bits binary32 0x3C23D70A) t)

unfoldable pub threshold : ℕ → ℕ → List Float → Float
unfolding rank_of clip entry
threshold row column g = clip (ranked (sample row column g) (rank_of (length (sample row column g))))

-- a byte for each gradient: 1 where it is at least the threshold
abbrev pub marks : Float → ℕ → List Float → List ℕ
marks th n g = tab n (λ k. bit (le th (get_or g k nan)))

-- those of all the gradients, by their own threshold
abbrev pub marked : ℕ → ℕ → List Float → List ℕ
marked row column g = marks (threshold row column g) (row * column) g

-- the edge picture E of the planes of an h by w screen, as bytes, rows first
abbrev pub edges : ℕ → ℕ → List Float → List ℕ
edges h w planes = marked (h - 2) (w - 2) (gradients h w planes)
