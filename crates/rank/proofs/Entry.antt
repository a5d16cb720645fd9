-- Entry j of a sorted list by counting: its key is at most v exactly where more than j entries are. Assumes nothing.
use Prim.Native.Nat.{ℕ, ◌+◌, ◌≤◌, ◌<◌}
use mathlib.Core.Path.{◌≡◌, refl, sym, ◌∙◌}
use mathlib.Core.Bool.{Bool, true, false, cond}
use mathlib.Core.List.{List}
use native.Mathlib.Nat.{le_antisymm, le_refl, le_of_suc-le-suc, lt_of_not-le, lt_irrefl}
use native.Mathlib.Omega.{arith}
use borrow.Author.Tests.{leb-true, le-leb, lt-ltb, ltb-true, ltb-false}
use lib.Dec.{leb, ltb}
use lib.ListN.{length, get_or-eq_default}
use Rattle.std.specs.Prelude.{Some, None}
use Rattle.std.specs.Option.{unwrap_or}
use Rattle.rank.specs.Rank.{sort, entry}
use Rattle.rank.specs.Inner.{count_at_most, entry_at}
use Rattle.rank.proofs.Members.{length_sort}
use Rattle.rank.proofs.Sorted.{sorted_sort, count_sort, above, below}

module _ {A : Type 0} (key : A → ℕ) (d : A) where
  pub at_least : (v : ℕ) (l : List A) (j : ℕ) → j < length l → j < count_at_most key v l → key (entry key d l j) ≤ v
  unfolding entry
  at_least v l j h k =
      let long : j < length (sort key l) = omega (arith, length_sort key l) in
      le_of_suc-le-suc (lt_of_not-le (λ g. omega (arith, below key v (sort key l) j d (sorted_sort key l) long g, count_sort key v l)))

  pub at_most : (v : ℕ) (l : List A) (j : ℕ) → j < length l → count_at_most key v l ≤ j → v < key (entry key d l j)
  unfolding entry
  at_most v l j h k =
      let long : j < length (sort key l) = omega (arith, length_sort key l) in
      lt_of_not-le (λ g. omega (arith, above key v (sort key l) j d (sorted_sort key l) long g, count_sort key v l))

  -- past the end there is no entry
  pub entry_none : (l : List A) (j : ℕ) → length l ≤ j → entry key d l j ≡ d
  unfolding entry
  entry_none l j h = get_or-eq_default (sort key l) d {n = j} (omega (arith, length_sort key l))

  -- d in place of none
  pub entry_or : (l : List A) (j : ℕ) → unwrap_or (entry_at key d l j) d ≡ entry key d l j
  entry_or l j = go (ltb j (length l)) refl
    where
      go : (t : Bool) → ltb j (length l) ≡ t → unwrap_or (cond t (Some (entry key d l j)) None) d ≡ entry key d l j
      go true e = refl
      go false e = sym (entry_none l j (ltb-false j (length l) e))

  -- x has the key of entry j if its key is at most v exactly where more than j entries are
  pub entry_key : (x : A) (l : List A) (j : ℕ) → j < length l → ((v : ℕ) → leb (key x) v ≡ ltb j (count_at_most key v l))
      → key x ≡ key (entry key d l j)
  entry_key x l j h e =
      let top = key (entry key d l j) in
      le_antisymm
      (leb-true (key x) top (e top ∙ lt-ltb j (count_at_most key top l) (lt_of_not-le (λ g. lt_irrefl top (at_most top l j h g)))))
      (at_least (key x) l j h (ltb-true j (count_at_most key (key x) l) (sym (e (key x)) ∙ le-leb (key x) (key x) (le_refl (key x)))))

  -- ---- finding it by halving the range of keys

  -- the key of entry j lies in lo to hi
  pub record Between (l : List A) (j lo hi : ℕ) : Type 0 where
    pub low : lo ≤ key (entry key d l j)
    pub high : key (entry key d l j) ≤ hi

  pub between_all : (hi : ℕ) (l : List A) (j : ℕ) → j < length l → count_at_most key hi l ≡ length l → Between l j 0 hi
  between_all hi l j h e = record { low = omega arith; high = at_least hi l j h (omega arith) }

  pub between_left : {l : List A} {j lo hi : ℕ} (mid : ℕ) → Between l j lo hi → j < length l → j < count_at_most key mid l
      → Between l j lo mid
  between_left {l} {j} mid b h k = record { low = b.low; high = at_least mid l j h k }

  pub between_right : {l : List A} {j lo hi : ℕ} (mid : ℕ) → Between l j lo hi → j < length l → count_at_most key mid l ≤ j
      → Between l j (mid + 1) hi
  between_right {l} {j} mid b h k = record { low = omega (arith, at_most mid l j h k); high = b.high }
