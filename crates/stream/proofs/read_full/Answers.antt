-- One read more: what it gave stands behind what was there, and is what the reader had next.
use Rattle.std.proofs.Common.{◌≡◌, ℕ, ◌+◌, ◌-◌, ◌≤◌, List, ◌++◌, rules, length, take, ap, ◌∙◌, sym, subst, le_refl, drop_at, length-take-le}
use Rattle.std.proofs.lemmas.Slice.{take-put_mid_below}
use Rattle.std.specs.Io.KnownBytes.{Consumes}
use Rattle.std.proofs.KnownBytes.{Consumes-trans}
use borrow.Rule.Slice.PartMut.{put_mid, post_of}
use lib.ListN.{drop}
use lib.Seq.{take-add, take-append-le}
use Rattle.stream.proofs.read_full.Goals as goal

-- the first a + k bytes, where the part from a on was overwritten
front_put : (a m k : ℕ) (old part : List ℕ) → a ≤ length old → k ≤ length part
    → take a old ++ take k part ≡ take (a + k) (put_mid a m old part)
front_put a m k old part within fits =
    let front = take-put_mid_below a m old part a (le_refl a) within in
    let rest = drop_at (take a old) (part ++ post_of a m old) a (length-take-le a old within) in
    let second : take k part ≡ take k (drop a (put_mid a m old part)) = sym (ap (take k) rest ∙ take-append-le k part (post_of a m old) fits) in
    ap (λ (l : List ℕ). l ++ take k part) (sym front)
    ∙ ap (λ (l : List ℕ). take a (put_mid a m old part) ++ l) second
    ∙ sym (take-add a k (put_mid a m old part))

pub loop-n-preserved : goal.loop-n-preserved
loop-n-preserved g c =
    let at = c.loop-n.invariant.1 in
    let here = front_put c.loop-n.n (length c.loop-n.buf - c.loop-n.n) c.in-Ok.k c.loop-n.buf c.read.new.buf at.within c.in-Ok.ensures.bound.0 in (
      search rules,
      record {
        within = search rules;
        bytes = subst (Consumes _ _) here (Consumes-trans _ _ _ _ _ at.bytes c.in-Ok.ensures.bytes.0);
      },
    )
