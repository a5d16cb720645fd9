-- Parts of lists: a list's front by a rule, a list of one value, a part behind a cut, and a part that is lent and
-- comes back. Assumes nothing.
use Prim.Native.Nat.{ℕ, zero, suc, ◌-◌, ◌≤◌}
use mathlib.Core.Path.{◌≡◌, refl, sym, ap, ◌∙◌}
use mathlib.Core.List.{List, [], ◌∷◌, ◌++◌, append-nil}
use native.Mathlib.Nat.{not-suc-le-zero, le_of_suc-le-suc}
use native.Mathlib.Omega.{arith}
use lib.ListN.{length, take, drop, get_or, replicate, length-drop, drop_of_length-le}
use lib.Seq.{take_all, take-nil}
use borrow.Rule.Slice.PartMut.{mid_of, put_mid}
use Rattle.lists.specs.Tab.{tab}
use Rattle.lists.proofs.Tab.{tab_from_shift}

module _ {A : Type 0} where
  -- the front of a list is the list of its entries
  pub tab_take : (n : ℕ) (l : List A) (z : A) → n ≤ length l → tab n (λ k. get_or l k z) ≡ take n l
  tab_take zero l z h = refl
  tab_take (suc n) [] z h = absurd (not-suc-le-zero h)
  tab_take (suc n) (x ∷ l) z h =
      ap (λ (t : List A). x ∷ t) (tab_from_shift 0 n (λ k. get_or (x ∷ l) k z) ∙ tab_take n l z (le_of_suc-le-suc h))

  pub tab_replicate : (n : ℕ) (x : A) → tab n (λ k. x) ≡ replicate n x
  tab_replicate zero x = refl
  tab_replicate (suc n) x = ap (λ (t : List A). x ∷ t) (tab_from_shift 0 n (λ k. x) ∙ tab_replicate n x)

  -- what lies behind a in the first m
  pub drop_take : (a m : ℕ) (l : List A) → drop a (take m l) ≡ take (m - a) (drop a l)
  drop_take zero m l = let e : m - 0 ≡ m = omega arith in rw e
  drop_take (suc a) zero l = let e : zero - suc a ≡ 0 = omega arith in rw e
  drop_take (suc a) (suc m) [] = sym (take-nil (suc m - suc a))
  drop_take (suc a) (suc m) (x ∷ l) = let e : suc m - suc a ≡ m - a = omega arith in rw e (drop_take a m l)

  -- a part lent from a to the end, and what is left of the list once the part is back
  pub mid_rest : (a : ℕ) (s : List A) → mid_of a (length s - a) s ≡ drop a s
  mid_rest a s = take_all (length s - a) (drop a s) (simp length-drop (omega arith))

  pub put_rest : (a : ℕ) (s last : List A) → put_mid a (length s - a) s last ≡ take a s ++ last
  put_rest a s last = rw (drop_of_length-le (drop a s) {i = length s - a} (simp length-drop (omega arith)), append-nil)
