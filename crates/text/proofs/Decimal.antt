-- The decimal digits of a number: its last digit behind those of its tenth, and how many there are. Assumes nothing.
use Prim.Native.Nat.{ℕ, zero, suc, ◌+◌, ◌*◌, ◌/◌, ◌%◌, ◌^◌, ◌<◌, ◌≤◌}
use mathlib.Core.Path.{◌≡◌, refl, ap, ◌∙◌}
use mathlib.Core.Bool.{Bool, true, false, cond}
use mathlib.Core.List.{List, [], ◌∷◌, ◌++◌, append_assoc}
use native.Mathlib.Nat.{le_refl, not-suc-le-zero, pow-suc, div-lt_iff_lt-mul}
use native.Mathlib.Numerals.{add-one}
use native.Mathlib.Omega.{arith}
use lib.Dec.{ltb}
use lib.ListN.{length, get_or, drop, length-append}
use lib.Seq.{drop-cons}
use borrow.Author.Tests.{lt-ltb, le-ltb, ltb-true, ltb-false}
use Rattle.text.specs.Text.{digits_of, decimal, following, numbers_line}

-- a tenth has a digit less
tenth : (k n : ℕ) → n < 10 ^ suc k → n / 10 < 10 ^ k
tenth k n h = (div-lt_iff_lt-mul {k = 10} (omega arith)).1 (rw (pow-suc 10 k) at h)

-- room for more digits than there are changes nothing
digits_same : (k n : ℕ) → n < 10 ^ suc k → digits_of (suc k) n ≡ digits_of (suc (suc k)) n
digits_same zero n h = rw (lt-ltb n 10 h)
digits_same (suc k) n h = rw (digits_same k (n / 10) (tenth (suc k) n h))

-- so many digits, the last ones of a number
abbrev pub last_digits : ℕ → ℕ → List ℕ
last_digits zero n = []
last_digits (suc k) n = last_digits k (n / 10) ++ ((48 + n % 10) ∷ [])

-- so many as it has are all that it has
all_digits : (most k n : ℕ) → k ≡ length (digits_of most n) → last_digits k n ≡ digits_of most n
all_digits zero k n e = rw e
all_digits (suc most) k n e = go (ltb n 10) e (all_digits most (length (digits_of most (n / 10))) (n / 10) refl)
  where
    go : (t : Bool) → k ≡ length (cond t [] (digits_of most (n / 10)) ++ ((48 + n % 10) ∷ []))
        → last_digits (length (digits_of most (n / 10))) (n / 10) ≡ digits_of most (n / 10)
        → last_digits k n ≡ cond t [] (digits_of most (n / 10)) ++ ((48 + n % 10) ∷ [])
    go true e i = rw e
    go false e i =
        let one : k ≡ suc (length (digits_of most (n / 10))) = simp length-append at e ∙ omega arith in
        rw (one, i)

pub decimal_last : (k n : ℕ) → k ≡ length (decimal n) → last_digits k n ≡ decimal n
unfolding decimal
decimal_last = all_digits 20

pub decimal_one : (n : ℕ) → n < 10 → decimal n ≡ (48 + n % 10) ∷ []
unfolding decimal
decimal_one n l = rw (lt-ltb n 10 l)

pub decimal_more : (n : ℕ) → 10 ≤ n → n < 2 ^ 64 → decimal n ≡ decimal (n / 10) ++ ((48 + n % 10) ∷ [])
unfolding decimal
decimal_more n l h = rw (le-ltb n 10 l, digits_same 18 (n / 10) (omega arith))

pub length_more : (n : ℕ) → 10 ≤ n → n < 2 ^ 64 → length (decimal n) ≡ length (decimal (n / 10)) + 1
length_more n l h = rw (decimal_more n l h) (length-append (decimal (n / 10)) ((48 + n % 10) ∷ []))

one_more : (t : Bool) (d : ℕ) (l : List ℕ) {most : ℕ} → (t ≡ false → length l ≤ most) → length (cond t [] l ++ (d ∷ [])) ≤ suc most
one_more true d l h = omega arith
one_more false d l h = simp length-append (omega (arith, h refl))

digits_most : (most n : ℕ) → length (digits_of most n) ≤ most
digits_most zero n = le_refl 0
digits_most (suc most) n = one_more (ltb n 10) (48 + n % 10) (digits_of most (n / 10)) (λ _. digits_most most (n / 10))

pub decimal_most : (n : ℕ) → length (decimal n) ≤ 20
unfolding decimal
decimal_most n = digits_most 20 n

-- a number below a power of ten has no more digits than that has zeros
pub digits_below : (k n : ℕ) → n < 10 ^ suc k → n < 2 ^ 64 → length (decimal n) ≤ suc k
digits_below zero n h l = omega (arith, ap length (decimal_one n h))
digits_below (suc k) n h l = go (ltb n 10) refl (digits_below k (n / 10) (tenth (suc k) n h) (omega arith))
  where
    go : (t : Bool) → ltb n 10 ≡ t → length (decimal (n / 10)) ≤ suc k → length (decimal n) ≤ suc (suc k)
    go true e i = omega (arith, ap length (decimal_one n (ltb-true n 10 e)))
    go false e i = omega (arith, length_more n (ltb-false n 10 e) l)

-- ---- a line of numbers

following_most : (ns : List ℕ) → length (following ns) ≤ 21 * length ns
following_most [] = omega arith
following_most (n ∷ ns) = omega (arith, length-append (32 ∷ decimal n) (following ns), decimal_most n, following_most ns)

-- so many numbers take at most 21 bytes each, of which the line feed is one
pub line_most : (ns : List ℕ) → 0 < length ns → length (numbers_line ns) ≤ 21 * length ns
line_most [] l = absurd (not-suc-le-zero l)
line_most (n ∷ ns) l =
    let all = length-append (decimal n ++ following ns) (10 ∷ []) in
    omega (arith, all, length-append (decimal n) (following ns), decimal_most n, following_most ns)

-- the first number, then those that follow
pub line_first : (ns : List ℕ) → 0 < length ns → numbers_line ns ≡ decimal (get_or ns 0 0) ++ (following (drop 1 ns) ++ (10 ∷ []))
line_first [] l = absurd (not-suc-le-zero l)
line_first (n ∷ ns) l = append_assoc (decimal n) (following ns) (10 ∷ [])

pub line_next : (ns : List ℕ) (k : ℕ) → k < length ns
    → following (drop k ns) ++ (10 ∷ []) ≡ (32 ∷ decimal (get_or ns k 0)) ++ (following (drop (k + 1) ns) ++ (10 ∷ []))
line_next ns k l = rw (add-one k, drop-cons ns k 0 l) (append_assoc (32 ∷ decimal (get_or ns k 0)) (following (drop (suc k) ns)) (10 ∷ []))
