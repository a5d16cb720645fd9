-- 01, "Lines and votes", first paragraph: the lines of a list s of scores, and the estimate e of their gap.
use Rattle.std.specs.Prelude.{ℕ, ◌+◌, ◌-◌, min, max, Bool, cond, ◌&&◌, ◌||◌}
use Rattle.std.specs.Prelude.{List, [], ◌∷◌, leb, ltb, eqb, Float, length, get_or, take, drop}
use Rattle.std.specs.Float.{binary32}
use Rattle.std.specs.Float.Ieee.{le, add, mul, div, of_bits}
use Rattle.lists.specs.Count.{count}
use Rattle.lists.specs.Tab.{tab}
use Rattle.binary32.specs.Binary32.{float, trunc}
use Rattle.rank.specs.Rank.{self, entry}

abbrev pub largest : List ℕ → ℕ
largest [] = 0
largest (x ∷ l) = max x (largest l)

-- th = (sorted[trunc(0.85·L)] + last sorted · 0.75) / 2.0
unfoldable pub line_threshold : List ℕ → Float
unfolding entry
line_threshold s =
    div binary32
    (add binary32
    (float (entry self 0 s (trunc (mul binary32 (of_bits binary32 0x3F59999A) (float (length s))))))
    (mul binary32 (float (entry self 0 s (length s - 1))) (of_bits binary32 0x3F400000)))
    (of_bits binary32 0x40000000)

-- the n entries before i, as far as there are so many, and the n after it
abbrev pub entries_before : ℕ → List ℕ → ℕ → List ℕ
entries_before n l i = take (i - (i - n)) (drop (i - n) l)

abbrev pub entries_behind : ℕ → List ℕ → ℕ → List ℕ
entries_behind n l i = take n (drop (i + 1) l)

-- t: the first and last four as s, else the larger of s(i) and the smaller of two: the largest of the four before, and of the four after
abbrev pub smoothed : List ℕ → ℕ → ℕ
smoothed s i =
    cond (ltb i 4 || leb (length s) (i + 4))
    (get_or s i 0)
    (max (get_or s i 0) (min (largest (entries_before 4 s i)) (largest (entries_behind 4 s i))))

unfoldable pub smooth : List ℕ → List ℕ
smooth s = tab (length s) (smoothed s)

abbrev pub count_equal : ℕ → List ℕ → ℕ
count_equal v l = count (λ x. eqb x v) l

-- of the entries before v and those after it none is larger, and the equals before are as many as those after, or one less
abbrev pub stands_out : ℕ → List ℕ → List ℕ → Bool
stands_out v a b =
    leb (largest a) v && (leb (largest b) v && (eqb (count_equal v a) (count_equal v b) || eqb (count_equal v a + 1) (count_equal v b)))

-- place i of t is a line: t(i) ≥ th, and it stands out of the 7 places before and the 7 after
unfoldable pub is_line : Float → List ℕ → ℕ → Bool
is_line th t i = le th (float (get_or t i 0)) && stands_out (get_or t i 0) (entries_before 7 t i) (entries_behind 7 t i)

abbrev pub keep : (ℕ → Bool) → List ℕ → List ℕ
keep p [] = []
keep p (x ∷ l) = cond (p x) (x ∷ keep p l) (keep p l)

-- the places of t that are lines
abbrev pub places_of : Float → List ℕ → List ℕ
places_of th t = keep (is_line th t) (tab (length t) (λ i. i))

-- the lines of s
unfoldable pub lines_of : List ℕ → List ℕ
unfolding line_threshold smooth is_line
lines_of s = places_of (line_threshold s) (smooth s)

abbrev pub gaps : List ℕ → List ℕ
gaps [] = []
gaps (x ∷ []) = []
gaps (x ∷ y ∷ l) = (y - x) ∷ gaps (y ∷ l)

-- d: the gaps between neighbouring lines above 5
abbrev pub wide_gaps : List ℕ → List ℕ
wide_gaps lines = keep (λ g. ltb 5 g) (gaps lines)

-- d[trunc(0.4·count)], d sorted
abbrev pub chosen_gap : List ℕ → ℕ
chosen_gap d = entry self 0 d (trunc (mul binary32 (float (length d)) (of_bits binary32 0x3ECCCCCD)))

-- e of the lines
unfoldable pub estimate : List ℕ → ℕ
unfolding entry
estimate lines = chosen_gap (wide_gaps lines)

-- a gap of at most e · 0.8
unfoldable pub narrow_gap : ℕ → ℕ → Bool
narrow_gap e gap = le (float gap) (mul binary32 (float e) (of_bits binary32 0x3F4CCCCD))

-- the first line is dropped if its gap is narrow
abbrev pub drop_first : ℕ → List ℕ → List ℕ
drop_first e [] = []
drop_first e (x ∷ []) = x ∷ []
drop_first e (x ∷ y ∷ l) = cond (narrow_gap e (y - x)) (y ∷ l) (x ∷ y ∷ l)

-- the last likewise
abbrev pub drop_last : ℕ → List ℕ → List ℕ
drop_last e [] = []
drop_last e (x ∷ []) = x ∷ []
drop_last e (x ∷ y ∷ []) = cond (narrow_gap e (y - x)) (x ∷ []) (x ∷ y ∷ [])
drop_last e (x ∷ y ∷ z ∷ l) = x ∷ drop_last e (y ∷ z ∷ l)
