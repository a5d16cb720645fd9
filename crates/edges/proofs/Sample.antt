-- The sample and its parts: where their rows lie, how many values they have, that they are plain, that the rank is one of the sample's
-- places, and counting row after row. Assumes nothing.
use Rattle.std.proofs.Common.{◌≡◌, ℕ, ◌+◌, ◌*◌, ◌/◌, ◌%◌, ◌^◌, ◌≤◌, ◌<◌, false, List, length, get_or, take, drop, sym, refl, ap, ◌∙◌, arith, length-drop}
use Rattle.std.proofs.Math.Nat.{add-mul, zero-mul, one-mul, mul_comm, mul-le-mul_right, mul-pos, div-mul-le_self, mod-lt}
use Rattle.std.proofs.Math.Seq.{get_or-drop}
use mathlib.Core.Path.{fun_ext}
use lib.Ieee.{Float, nan, binary32, to_bits, of_bits}
use lib.Ieee.Exact.{HasValue}
use Rattle.lists.specs.Tab.{tab, grid}
use Rattle.lists.proofs.Count.{count_append}
use Rattle.lists.proofs.Tab.{length_tab_from, get_or_tab, tab_same}
use Rattle.lists.proofs.Part.{tab_take}
use Rattle.lists.proofs.Grid.{row_column, grid_more}
use Rattle.binary32.proofs.Plain.{Plain, bits_plain}
use Rattle.binary32.proofs.Share.{share_below}
use Rattle.rank.specs.Inner.{at_most, count_at_most}
use Rattle.edges.specs.Edges.{middle, sample, rank_of}
use Rattle.edges.specs.Inner.{AllHeld, AllPlain, taken, start, part}

-- every value of l is such
abbrev pub AllAre : (Float → Type 0) → List Float → Type 0
AllAre P l = (k : ℕ) → k < length l → P (get_or l k nan)

-- the value in row i and column j of a part
abbrev pub part_at : ℕ → ℕ → ℕ → ℕ → List Float → ℕ → ℕ → Float
part_at s p row column g i j = get_or g (start s p row column i + j) nan

-- the value at a place, rows first
abbrev pub at_place : (ℕ → ℕ → Float) → ℕ → ℕ → Float
at_place f columns k = f (k / columns) (k % columns)

-- place k, past a whole number of steps of s and within the next, lies in the middle half
pub within : (s side i k : ℕ) → 1 ≤ s → i < taken s side → s * i + k % s < middle side
within s side i k z h =
    let m = middle side in
    let q : (i + 1) * s ≤ taken s side * s = mul-le-mul_right s (omega arith) in
    omega (arith, mod-lt k z, div-mul-le_self m s, add-mul i 1 s, one-mul s, mul_comm s i)

-- row i of a part lies among the gradients
pub row_in : (s p row column i : ℕ) → 1 ≤ s → 1 ≤ p → i < taken s row → start s p row column i + taken p column ≤ row * column
row_in s p row column i y z h =
    let q : row / 4 + (s * i + i * i / 7 % s) + 1 ≤ row = omega (arith, within s row i (i * i / 7) y h) in
    let n = taken p column in
    let e : 3 * i % p + 1 ≤ p = omega (arith, mod-lt (3 * i) z) in
    let f : (3 * i % p + 1) * n ≤ p * n = mul-le-mul_right n e in
    let l : n * p ≤ middle column = div-mul-le_self (middle column) p in
    omega (
      arith,
      mul-le-mul_right column q,
      add-mul (row / 4 + (s * i + i * i / 7 % s)) 1 column,
      one-mul column,
      add-mul (3 * i % p) 1 n,
      one-mul n,
      mul_comm p n,
    )

-- the entries from a place on
pub row_is : (g : List Float) (from n : ℕ) → from + n ≤ length g → take n (drop from g) ≡ tab n (λ j. get_or g (from + j) nan)
row_is g from n h =
    sym
    (ap (λ (f : ℕ → Float). tab n f) (fun_ext (λ j. sym (get_or-drop from g j nan)))
    ∙ tab_take n (drop from g) nan (omega (arith, length-drop from g)))

pub length_part : (s p row column : ℕ) (g : List Float) → length (part s p row column g) ≡ taken s row * taken p column
length_part s p row column g = length_tab_from 0 (taken s row * taken p column) _

-- every value of a part is one of the gradients
pub part_plain : (s p row column : ℕ) (g : List Float) → 1 ≤ s → 1 ≤ p → length g ≡ row * column → AllHeld g → AllPlain g
    → AllAre Plain (part s p row column g)
part_plain s p row column g y o e f q k h =
    let rows = taken s row in
    let n = taken p column in
    let l : k < rows * n = omega (arith, length_part s p row column g) in
    let place = row_column rows n k l in
    let at = start s p row column (k / n) + k % n in
    let b : at < length g = omega (arith, row_in s p row column (k / n) y o place.0, place.1) in
    rw (get_or_tab (rows * n) k (at_place (part_at s p row column g) n) nan l) (bits_plain (get_or g at nan) (f at) (q at b))

-- the part that is all of it
pub part_all : (row column : ℕ) (g : List Float) → part 1 1 row column g ≡ sample row column g
part_all row column g =
    let n = middle column in
    let d : taken 1 row ≡ middle row = omega arith in
    let e : taken 1 column ≡ n = omega arith in
    rw (d, e)
    (tab_same
    (middle row * n)
    _
    _
    (λ k h.
    let y : 1 * (k / n) + k / n * (k / n) / 7 % 1 ≡ k / n = omega arith in
    let z : 3 * (k / n) % 1 ≡ 0 = omega arith in
    ap (λ (p : ℕ). get_or g p nan) (rw (y, z) (omega (arith, zero-mul n)))))

-- ---- the rank

share : HasValue (of_bits binary32 0x3F0CCCCD) false 9227469 16777216
unfolding of_bits
share = (refl, refl)

pub rank_below : (m : ℕ) → 0 < m → m ≤ 2 ^ 22 → rank_of m < m
unfolding rank_of
rank_below m z h = share_below (of_bits binary32 0x3F0CCCCD) 9227469 16777216 m share (omega arith) (omega arith) z h (omega arith)

-- it is a place of the sample
pub rank_in : {m : ℕ} (row column : ℕ) (g : List Float) → m ≡ length (part 1 1 row column g) → 2 ≤ row → 2 ≤ column → m ≤ 2 ^ 22
    → (rank_of m < m) × (m ≡ length (sample row column g))
rank_in {m} row column g e r k h =
    let some : 0 < taken 1 row * taken 1 column = mul-pos (omega arith) (omega arith) in
    (rank_below m (omega (arith, e, length_part 1 1 row column g)) h, rw (part_all row column g) at e)

-- ---- counting

-- one row more
pub count_row : (b : ℕ) (f : ℕ → ℕ → Float) (columns i : ℕ)
    → count_at_most (to_bits binary32) b (grid (i + 1) columns f)
    ≡ count_at_most (to_bits binary32) b (grid i columns f) + count_at_most (to_bits binary32) b (tab columns (f i))
count_row b f columns i = rw (grid_more i columns f) (count_append (at_most (to_bits binary32) b) (grid i columns f) (tab columns (f i)))
