-- For the code alone: what it asks, and the search for the threshold's bits by counting, over parts of the sample. No contract of an entry
-- point reaches these.
use Rattle.std.specs.Prelude.{ℕ, ◌+◌, ◌*◌, ◌/◌, ◌%◌, ◌≤◌, ◌<◌, ◌≡◌, T, List, Float, length, get_or}
use Rattle.std.specs.Float.{nan, binary32}
use Rattle.std.specs.Float.Ieee.{fits, to_bits}
use Rattle.lists.specs.Tab.{grid}
use Rattle.edges.specs.Edges.{middle}

-- every value has bits of at most infinity's: none is negative, -0.0 or NaN
abbrev pub AllPlain : List Float → Type 0
AllPlain g = (k : ℕ) → k < length g → to_bits binary32 (get_or g k nan) ≤ 0x7F800000

-- and a threshold is another such: these are ordered as their bits are
abbrev pub ByBits : Float → List Float → Type 0
ByBits th g = AllPlain g × (to_bits binary32 th ≤ 0x7F800000)

-- every value is one of binary32, as the type f32 has it
abbrev pub AllHeld : List Float → Type 0
AllHeld g = (k : ℕ) → T (fits binary32 (get_or g k nan))

-- what the search asks of the gradients: their sides, and that each is a plain value
pub record GradientsFit (row column : ℕ) (g : List Float) : Type 0 where
  pub row_in : row ≤ 4094
  pub column_in : column ≤ 4094
  pub long : length g ≡ row * column
  pub plain : AllPlain g

-- how many rows a part of the sample has, or columns of each: one in s of the middle half of the side
abbrev pub taken : ℕ → ℕ → ℕ
taken s side = middle side / s

-- Where row i of a part begins. Which row of each s is taken varies, and comes round after 7 · s of them; so varies which p-th of the
-- columns.
abbrev pub start : ℕ → ℕ → ℕ → ℕ → ℕ → ℕ
start s p row column i = (row / 4 + (s * i + i * i / 7 % s)) * column + (column / 4 + 3 * i % p * taken p column)

-- a part of the sample: one row of each s, and of it one p-th of the columns. With 1 and 1 it is the sample.
abbrev pub part : ℕ → ℕ → ℕ → ℕ → List Float → List Float
part s p row column g = grid (taken s row) (taken p column) (λ i j. get_or g (start s p row column i + j) nan)
