-- Texts one after another, and a text of which a part is written. Assumes nothing.
use Prim.Native.Nat.{ℕ, suc, ◌+◌, ◌<◌, ◌≤◌}
use mathlib.Core.Path.{◌≡◌, refl, sym, ap, ◌∙◌}
use mathlib.Core.List.{List, [], ◌∷◌, ◌++◌, append_assoc, append-nil}
use native.Mathlib.Omega.{arith}
use lib.ListN.{length, take, drop, set, length-set, length-append}
use lib.Seq.{length-take-le, drop_at, take-set-le, set_split}
use Rattle.lists.proofs.Front.{placed_none, placed_join}
use Rattle.text.specs.Inner.{Puts}

pub puts_none : (at : ℕ) (before : List ℕ) → Puts [] at before at before
puts_none at before = record { next_is = omega arith; placed = placed_none }

-- one after the other
pub puts_join : {a b before mid after : List ℕ} {at m next : ℕ} → Puts a at before m mid → Puts b m mid next after → m ≤ length before
    → Puts (a ++ b) at before next after
puts_join {a} {b} x y h =
    record {
      next_is = simp length-append (omega (arith, x.next_is, y.next_is));
      placed = placed_join x.placed y.placed x.next_is h;
    }

-- in front of a byte that is written already
pub puts_last : {text before after : List ℕ} {at k next : ℕ} (b : ℕ) → Puts text at (set before k b) k after → k < length before
    → next ≡ k + 1
    → Puts (text ++ (b ∷ [])) at before next after
puts_last {text} {before} {at = at} {k} b x l e =
    let end : at + length (text ++ (b ∷ [])) ≡ suc k = simp length-append (omega (arith, x.next_is)) in
    let rest : drop k (set before k b) ≡ b ∷ drop (suc k) before =
    rw (set_split before k b l) (drop_at (take k before) (b ∷ drop (suc k) before) k (length-take-le k before (omega arith))) in
    record {
      next_is = omega arith;
      placed = record {
        len = x.placed.len ∙ length-set before k b;
        is = x.placed.is ∙ rw (← x.next_is, take-set-le at before k b (omega (arith, x.next_is)), rest, end, append_assoc);
      };
    }

-- the whole text has room, and of it all is written but the rest
pub record Partly (whole rest : List ℕ) (at : ℕ) (before : List ℕ) (next : ℕ) (after : List ℕ) : Type 0 where
  pub written : List ℕ
  pub whole_is : written ++ rest ≡ whole
  pub puts : Puts written at before next after
  pub room : at + length whole ≤ length before

module _ {whole : List ℕ} {at : ℕ} {before : List ℕ} where
  pub partly_none : at + length whole ≤ length before → Partly whole whole at before at before
  partly_none h = record { written = []; whole_is = refl; puts = puts_none at before; room = h }

  -- what is left takes what is left of the room
  remains : {rest after : List ℕ} {next : ℕ} → Partly whole rest at before next after → next + length rest ≡ at + length whole
  remains {rest} p = omega (arith, length-append p.written rest, ap length p.whole_is, p.puts.next_is)

  -- so there is room for its next part
  pub partly_room : (part rest : List ℕ) {after : List ℕ} {next : ℕ} → Partly whole (part ++ rest) at before next after
      → next + length part ≤ length after
  partly_room part rest p = omega (arith, remains p, length-append part rest, p.puts.placed.len, p.room)

  -- a part more
  pub partly_more : (part : List ℕ) {rest mid after : List ℕ} {m next : ℕ} → Partly whole (part ++ rest) at before m mid
      → Puts part m mid next after → Partly whole rest at before next after
  partly_more part {rest} p x =
      record {
        written = p.written ++ part;
        whole_is = append_assoc p.written part rest ∙ p.whole_is;
        puts = puts_join p.puts x (omega (arith, remains p, p.room));
        room = p.room;
      }

  pub partly_all : {after : List ℕ} {next : ℕ} → Partly whole [] at before next after → Puts whole at before next after
  partly_all p = rw (sym (append-nil p.written) ∙ p.whole_is) at p.puts
