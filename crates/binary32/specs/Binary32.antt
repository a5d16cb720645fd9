-- Single binary32 values, as 01 speaks of them. The operations are IEEE 754's, each rounded to nearest, ties to even (`lib.Ieee`).
use Rattle.std.specs.Prelude.{ℕ, Bool, false, cond, pos, nat_le, to_bits, Float}
use Rattle.std.specs.Float.{nan, inf, fin, binary32}
use Rattle.std.specs.Float.Ieee.{lt, of_int, to_unsigned}

-- a whole number as a binary32
abbrev pub float : ℕ → Float
float n = of_int binary32 (pos n)

-- 01, "How each operation declines": the bits are at most 3F800000 hexadecimal, so the value is 0.0 to 1.0 and not -0.0.
-- What is no number has bits above that.
unfoldable pub unit : Float → Bool
unit x = nat_le (to_bits binary32 x) 0x3F800000

-- 01, "Gradient and threshold": the magnitude, which is the value with its sign bit clear
abbrev pub magnitude : Float → Float
magnitude nan = nan
magnitude (inf s) = inf false
magnitude (fin s m e) = fin false m e

-- the larger of two, and the second where neither is above the other
unfoldable pub larger : Float → Float → Float
larger a b = cond (lt b a) a b

-- 01, first paragraph: trunc drops the fraction. Below 0 and where there is no number it is 0, and at most 2 ^ 64 - 1.
abbrev pub trunc : Float → ℕ
trunc x = to_unsigned 64 x
