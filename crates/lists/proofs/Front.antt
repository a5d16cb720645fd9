-- A list at the front of a slice, or from a place on: how it is written entry by entry or part by part, and what is
-- read back. Assumes nothing.
use Prim.Native.Nat.{ℕ, ◌+◌, ◌-◌, ◌*◌, ◌≤◌, ◌<◌}
use mathlib.Core.Path.{◌≡◌, refl, sym, ap, ◌∙◌}
use mathlib.Core.List.{List, [], ◌∷◌, ◌++◌, append-nil, append_assoc}
use native.Mathlib.Nat.{add-zero, not-suc-le-zero, le_of_suc-le-suc}
use native.Mathlib.Numerals.{add-one}
use native.Mathlib.Omega.{arith}
use lib.ListN.{length, take, drop, get_or, set, replicate, length-set, length-append, length-drop, take-append-drop, get_or-append}
use lib.ListN.{length-replicate, get_or-replicate, replicate-append-replicate}
use lib.Seq.{take_at, take-append-le, length-take-le, drop_at, drop-drop, drop-length, drop-append-le}
use lib.Seq.{take-suc, set_split, get_or-append-add, get_or-drop, get_or-take}
use borrow.Rule.Slice.PartMut.{mid_of, put_mid, same_len_mid, mid_len}
use Rattle.lists.specs.Front.{AtFront}
use Rattle.lists.specs.Inner.{Placed}
use Rattle.lists.specs.Tab.{tab, grid}
use Rattle.lists.proofs.Tab.{length_tab_from, get_or_tab}
use Rattle.lists.proofs.Grid.{tab_more, grid_more}
use Rattle.lists.proofs.Part.{mid_rest, put_rest}

module _ {A : Type 0} where
  -- the number of entries by another name
  pub front_by : {list lent out : List A} (n : ℕ) → length list ≡ n → n ≤ length lent → out ≡ list ++ drop n lent → AtFront list lent out
  front_by {list} {lent} {out} n l h e =
      record { len = ap length e ∙ simp (length-append, length-drop) (omega (arith, l)); is = rw l e }

  pub front_is : {list lent out : List A} (n : ℕ) → length list ≡ n → AtFront list lent out → out ≡ list ++ drop n lent
  front_is n l h = rw l at h.is

  pub front_none : {lent : List A} → AtFront [] lent lent
  front_none = record { len = refl; is = refl }

  -- one entry more
  set_next : (list lent : List A) (v : A) → length list < length lent
      → set (list ++ drop (length list) lent) (length list) v ≡ (list ++ (v ∷ [])) ++ drop (length (list ++ (v ∷ []))) lent
  set_next list [] v l = absurd (not-suc-le-zero l)
  set_next [] (x ∷ lent) v l = refl
  set_next (y ∷ list) (x ∷ lent) v l = ap (λ (t : List A). y ∷ t) (set_next list lent v (le_of_suc-le-suc l))

  pub front_push : {list lent out : List A} (v : A) (n : ℕ) → length list ≡ n → AtFront list lent out → n < length lent
      → AtFront (list ++ (v ∷ [])) lent (set out n v)
  front_push {list} {lent} {out} v n l h b =
      record { len = length-set out n v ∙ h.len; is = rw (h.is, ← l) (set_next list lent v (rw l b)) }

  -- the same by a rule: the loops that fill a slice from its front
  pub front_more : (f : ℕ → A) (k : ℕ) {lent out : List A} {v : A} → AtFront (tab k f) lent out → k < length lent → v ≡ f k
      → AtFront (tab (k + 1) f) lent (set out k v)
  front_more f k {v = v} h b e = rw (tab_more k f, ← e) (front_push v k (length_tab_from 0 k f) h b)

  -- the next entry of a part that is copied
  pub copied_next : (part : List A) (k : ℕ) {lent out : List A} {x : A} → k < length part → x ≡ get_or part k x → k < length lent
      → AtFront (take k part) lent out → AtFront (take (k + 1) part) lent (set out k x)
  copied_next part k {x = x} h e b c =
      let more : take k part ++ (x ∷ []) ≡ take (k + 1) part = rw (e, add-one k) (sym (take-suc part k x h)) in
      rw (← more) (front_push x k (length-take-le k part (omega arith)) c b)

  -- what is read back
  pub front_part : {list lent out : List A} (n : ℕ) → length list ≡ n → AtFront list lent out → take n out ≡ list
  front_part {list} {lent} n l h = rw (front_is n l h) (take_at list (drop n lent) n l)

  pub front_rest : {list lent out : List A} (n : ℕ) → length list ≡ n → AtFront list lent out → drop n out ≡ drop n lent
  front_rest {list} {lent} n l h = rw (front_is n l h) (drop_at list (drop n lent) n l)

  -- behind the list all is as it was
  pub front_kept : {list lent out : List A} (m : ℕ) → length list ≤ m → AtFront list lent out → drop m out ≡ drop m lent
  front_kept {list} {lent} {out} m l h =
      let k = m - length list in
      let n : m ≡ length list + k = omega arith in
      rw n (sym (drop-drop k (length list) out) ∙ rw (front_rest (length list) refl h) (drop-drop k (length list) lent))

  -- a part of the list
  pub front_inner : {list lent out : List A} (from end : ℕ) → AtFront list lent out → from ≤ end → end ≤ length list
      → take (end - from) (drop from out) ≡ take (end - from) (drop from list)
  front_inner {list} {lent} from end h r i =
      let rest = drop (length list) lent in
      rw (h.is, drop-append-le from list rest (omega arith))
      (take-append-le (end - from) (drop from list) rest (omega (arith, length-drop from list)))

  pub front_fits : {list lent out : List A} → AtFront list lent out → length list ≤ length out
  front_fits {list} {lent} h = omega (arith, ap length h.is, length-append list (drop (length list) lent))

  pub front_within : (z : A) {list lent out : List A} (r : ℕ) → AtFront list lent out → r < length list → get_or out r z ≡ get_or list r z
  front_within z {list} {lent} r h b = rw h.is (get_or-append list (drop (length list) lent) z r b)

  pub front_beyond : (z : A) {list lent out : List A} (r : ℕ) → AtFront list lent out → length list ≤ r → get_or out r z ≡ get_or lent r z
  front_beyond z {list} {lent} r h b =
      let n : r ≡ length list + (r - length list) = omega arith in
      rw h.is
      (ap (λ (i : ℕ). get_or (list ++ drop (length list) lent) i z) n
      ∙ get_or-append-add list (drop (length list) lent) (r - length list) z
      ∙ get_or-drop (length list) lent (r - length list) z
      ∙ ap (λ (i : ℕ). get_or lent i z) (sym n))

  -- a list as long as what was lent
  pub front_all : {list lent out : List A} → AtFront list lent out → length list ≡ length lent → out ≡ list
  front_all {list} {lent} h e = h.is ∙ rw (e, drop-length lent, append-nil)

  -- written over by a list that is no shorter
  pub front_over : {a b lent mid out : List A} → AtFront a lent mid → AtFront b mid out → length a ≤ length b → AtFront b lent out
  front_over {b = b} h k le = record { len = k.len ∙ h.len; is = rw (← front_kept (length b) le h) k.is }

  -- a list at the front, then another at the front of the part behind it
  pub front_behind : {p q lent s last : List A} (n : ℕ) → length p ≡ n → AtFront p lent s → AtFront q (mid_of n (length s - n) s) last
      → AtFront (p ++ q) lent (put_mid n (length s - n) s last)
  front_behind {p} {q} {lent} {s} {last} n l h k =
      let mid = mid_rest n s in
      let rest = front_rest n l h in
      let is : put_mid n (length s - n) s last ≡ p ++ (q ++ drop (n + length q) lent) =
      put_rest n s last ∙ rw (k.is, mid, rest, front_part n l h, drop-drop) in
      let long : n + length q ≤ length lent = omega (arith, front_fits k, k.len, ap length mid, length-drop n s, h.len, front_fits h) in
      front_by (n + length q) (simp length-append (omega (arith, l))) long (is ∙ sym (append_assoc p q _))

  -- ---- one value in n places

  module _ (v : A) where
    pub same_at : (z : A) (n : ℕ) {lent out : List A} → AtFront (replicate n v) lent out → (r : ℕ) → r < n → get_or out r z ≡ v
    same_at z n h r b = front_within z r h (omega (arith, length-replicate n v)) ∙ get_or-replicate n r v z b

    pub same_beyond : (z : A) (n : ℕ) {lent out : List A} → AtFront (replicate n v) lent out → (r : ℕ) → n ≤ r
        → get_or out r z ≡ get_or lent r z
    same_beyond z n h r b = front_beyond z r h (omega (arith, length-replicate n v))

    -- and in one place more
    pub same_next : (n : ℕ) {lent out : List A} → AtFront (replicate n v) lent out → n < length lent
        → AtFront (replicate (n + 1) v) lent (set out n v)
    same_next n h b = rw (← replicate-append-replicate n 1 v) (front_push v n (length-replicate n v) h b)

    -- and in m places more
    pub same_more : (n m : ℕ) {lent s last : List A} → AtFront (replicate n v) lent s
        → AtFront (replicate m v) (mid_of n (length s - n) s) last
        → AtFront (replicate (n + m) v) lent (put_mid n (length s - n) s last)
    same_more n m h k = rw (← replicate-append-replicate n m v) (front_behind n (length-replicate n v) h k)

    -- written over by a list that is no longer: the value stands in the other places still
    pub same_over : (m n : ℕ) {list lent mid out : List A} → length list ≡ m → m ≤ n → AtFront (replicate n v) lent mid
        → AtFront list mid out
        → AtFront (list ++ replicate (n - m) v) lent out
    same_over m n {list} {lent} {mid} l b h k =
        let rest = replicate (n - m) v in
        let all : m + (n - m) ≡ n = omega arith in
        let split : replicate m v ++ rest ≡ replicate n v = replicate-append-replicate m (n - m) v ∙ rw all in
        let behind : drop m mid ≡ rest ++ drop n lent =
        rw (front_is n (length-replicate n v) h, ← split, append_assoc (replicate m v) rest (drop n lent))
        (drop_at (replicate m v) (rest ++ drop n lent) m (length-replicate m v)) in
        front_by n (simp length-append (omega (arith, l, length-replicate (n - m) v)))
        (omega (arith, front_fits h, h.len, length-replicate n v))
        (front_is m l k ∙ rw behind (sym (append_assoc list rest (drop n lent))))

  -- ---- from a place on

  pub placed_none : {at : ℕ} {lent : List A} → Placed [] at lent lent
  placed_none {at} {lent} = record { len = refl; is = rw add-zero (sym (take-append-drop at lent)) }

  -- a part that comes back with as many entries stands where it was lent
  pub placed_part : (a k : ℕ) (s last : List A) → length (mid_of a k s) ≡ k → length last ≡ k → Placed last a s (put_mid a k s last)
  placed_part a k s last n l = record { len = same_len_mid a k s last (l ∙ sym n); is = rw (l, drop-drop) }

  -- one list behind another
  pub placed_join : {a b : List A} {at k : ℕ} {lent mid out : List A} → Placed a at lent mid → Placed b k mid out → k ≡ at + length a
      → k ≤ length lent
      → Placed (a ++ b) at lent out
  placed_join {a} {b} {at} {k} {lent} {mid} {out} x y s h =
      let t : length (take at lent) ≡ at = length-take-le at lent (omega arith) in
      let n : length (take at lent ++ a) ≡ k = simp length-append (omega (arith, t)) in
      let split : mid ≡ (take at lent ++ a) ++ drop k lent = x.is ∙ rw s (sym (append_assoc (take at lent) a _)) in
      let front : take k mid ≡ take at lent ++ a = rw split (take_at (take at lent ++ a) (drop k lent) k n) in
      let back : drop (k + length b) mid ≡ drop (at + length (a ++ b)) lent =
      let m : k + length b ≡ at + (length a + length b) = omega arith in
      sym (drop-drop (length b) k mid) ∙ rw (split, drop_at (take at lent ++ a) (drop k lent) k n, drop-drop, length-append, m) in
      record { len = y.len ∙ x.len; is = y.is ∙ rw (front, back, append_assoc, append_assoc) }

  -- what was written up to the place goes on
  pub placed_front : {text list : List A} {at : ℕ} {lent before after : List A} → AtFront text lent before → length text ≡ at
      → Placed list at before after
      → AtFront (text ++ list) lent after
  placed_front {text} {list} {at} {lent} {before} {after} h l x =
      record {
        len = x.len ∙ h.len;
        is = x.is
            ∙ rw (front_part at l h, ← drop-drop (length list) at before, front_rest at l h, drop-drop, ← append_assoc, length-append, l);
      }

  -- by a rule: the loops that fill a slice from a place on
  pub placed_more : (value : ℕ → A) (n : ℕ) {at : ℕ} {lent out : List A} {v : A} → Placed (tab n value) at lent out → at + n < length lent
      → v ≡ value n
      → Placed (tab (n + 1) value) at lent (set out (at + n) v)
  placed_more value n {at} {lent} {out} {v} x b e =
      let l : length (tab n value) ≡ n = length_tab_from 0 n value in
      let one : Placed (v ∷ []) (at + n) out (set out (at + n) v) =
      record { len = length-set out (at + n) v; is = rw (add-one (at + n)) (set_split out (at + n) v (rw x.len b)) } in
      rw (tab_more n value, ← e) (placed_join x one (rw l) (omega arith))

  -- what is read back
  pub front_here : (z : A) (f : ℕ → A) (n r : ℕ) {lent out : List A} → AtFront (tab n f) lent out → r < n → get_or out r z ≡ f r
  front_here z f n r h b = front_within z r h (omega (arith, length_tab_from 0 n f)) ∙ get_or_tab n r f z b

  placed_whole : {list : List A} {at : ℕ} {lent out : List A} → Placed list at lent out → at ≤ length lent
      → AtFront (take at lent ++ list) lent out
  placed_whole {at = at} {lent} x h =
      let l = length-take-le at lent h in
      placed_front {text = take at lent} (front_by at l h (sym (take-append-drop at lent))) l x

  module _ (z : A) (value : ℕ → A) (n : ℕ) {at : ℕ} {lent out : List A} (x : Placed (tab n value) at lent out) (h : at ≤ length lent) where
    long : length (take at lent ++ tab n value) ≡ at + n
    long = simp length-append (omega (arith, length-take-le at lent h, length_tab_from 0 n value))

    pub placed_before : (r : ℕ) → r < at → get_or out r z ≡ get_or lent r z
    placed_before r b =
        front_within z r (placed_whole x h) (omega (arith, long))
        ∙ get_or-append (take at lent) (tab n value) z r (omega (arith, length-take-le at lent h))
        ∙ get_or-take at lent r z b

    pub placed_here : (r : ℕ) → r < n → get_or out (at + r) z ≡ value r
    placed_here r b =
        front_within z (at + r) (placed_whole x h) (omega (arith, long))
        ∙ ap (λ (k : ℕ). get_or (take at lent ++ tab n value) (k + r) z) (sym (length-take-le at lent h))
        ∙ get_or-append-add (take at lent) (tab n value) r z
        ∙ get_or_tab n r value z b

    pub placed_behind : (r : ℕ) → at + n ≤ r → get_or out r z ≡ get_or lent r z
    placed_behind r b = front_beyond z r (placed_whole x h) (omega (arith, long))

  -- what was placed at the start is at the front
  pub placed_start : {list lent out : List A} → Placed list 0 lent out → AtFront list lent out
  placed_start {list} x = let n : 0 + length list ≡ length list = omega arith in record { len = x.len; is = rw n at x.is }

  -- a grid by its rows
  pub front_row : (f : ℕ → ℕ → A) (i columns : ℕ) {lent mid out : List A} → AtFront (grid i columns f) lent mid
      → Placed (tab columns (f i)) (i * columns) mid out
      → AtFront (grid (i + 1) columns f) lent out
  front_row f i columns h x = rw (grid_more i columns f) (placed_front h (length_tab_from 0 (i * columns) _) x)

  -- and a row of it that was written through the part where it stands
  pub front_row_part : (f : ℕ → ℕ → A) (i columns : ℕ) {lent s last : List A} → AtFront (grid i columns f) lent s
      → i * columns + columns ≤ length s
      → last ≡ tab columns (f i)
      → AtFront (grid (i + 1) columns f) lent (put_mid (i * columns) (i * columns + columns - i * columns) s last)
  front_row_part f i columns {s = s} h fits e =
      let from = i * columns in
      let long : length (tab columns (f i)) ≡ from + columns - from = omega (arith, length_tab_from 0 columns (f i)) in
      rw e (front_row f i columns h (placed_part from (from + columns - from) s (tab columns (f i)) (mid_len from (from + columns) s fits) long))
