-- The bits of the blocks of neighbouring points, gathered value by value. Assumes nothing.
use Prim.Native.Nat.{ℕ, ◌+◌, ◌*◌, ◌≤◌, ◌<◌}
use mathlib.Core.Path.{◌≡◌}
use mathlib.Core.List.{List, []}
use mathlib.Core.Logic.{⊎_elim}
use native.Mathlib.Nat.{eq-or-lt_of_le}
use native.Mathlib.Omega.{arith}
use lib.Arith.{digits_lt}
use lib.Ieee.{Float, nan, binary32, to_bits}
use lib.ListN.{length, get_or, set, length-set}
use Rattle.std.proofs.lemmas.Nat.{same_from_place}
use Rattle.std.proofs.lemmas.Grind.{common_steps}
use Rattle.select.specs.Inner.{list_count, list_of}
use Rattle.narrow.specs.Inner.{Gathered}

-- the first t values stand in the lists, counted row by row, and in a row point by point
pub record Gathering (t f m width at : ℕ) (planes : List Float) (x : List (List ℕ)) : Type 0 where
  pub long : f * f ≤ length x
  pub wide : (k : ℕ) → k < length x → length (get_or x k []) ≡ list_count
  pub here : (u v l : ℕ) → u < f → v < f → l < m → (u * m + l) * f + v < t
      → list_of x l (u * f + v) ≡ to_bits binary32 (get_or planes (at + u * width + l * f + v) nan)

-- two digits tell the number
pub gathered_more : {f m width at : ℕ} (u v l : ℕ) {planes : List Float} {x : List (List ℕ)}
    → Gathering ((u * m + l) * f + v) f m width at planes x
    → m ≤ list_count → u < f → v < f → l < m
    → Gathering ((u * m + l) * f + (v + 1)) f m width at planes
    (set x (u * f + v) (set (get_or x (u * f + v) []) l (to_bits binary32 (get_or planes (at + u * width + l * f + v) nan))))
gathered_more {f} {m} {width} {at} u v l {planes} {x} G M U V L =
    let k = u * f + v in
    let there : k < length x = omega (arith, digits_lt U V, G.long) in
    let wide = G.wide k there in
    record {
      long = simp length-set G.long;
      wide = λ i h. grind (arith, common_steps, G.wide i);
      here = λ u' v' l' a b c d.
          ⊎_elim (λ (e : (u' * m + l') * f + v' ≡ (u * m + l) * f + v).
          let p = same_from_place _ _ _ _ _ b V e in
          let q = same_from_place _ _ _ _ _ c L p.0 in
          rw (q.0, q.1, p.1) (grind (arith, common_steps)))
          (λ (e : (u' * m + l') * f + v' < (u * m + l) * f + v).
          let other : u' * f + v' ≡ k → l' ≡ l → ⊥ = λ z s. let q = same_from_place _ _ _ _ _ b V z in absurd (omega (arith, rw (q.0, q.1, s) at e)) in
          grind (arith, common_steps, other, G.here u' v' l' a b c e))
          (eq-or-lt_of_le {n = (u' * m + l') * f + v'} {m = (u * m + l) * f + v} (omega arith));
    }

pub gathered_all : {f m width at u : ℕ} {planes : List Float} {x : List (List ℕ)} → Gathering (u * m * f) f m width at planes x
    → f ≤ u → Gathered f m width at planes x
gathered_all G end = record { here = λ i v l a b c. G.here i v l a b c (digits_lt (digits_lt (omega arith) c) b) }
