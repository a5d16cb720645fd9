use Prim.Native.Nat.{ℕ, zero, suc, ◌+◌, ◌*◌, ◌/◌, ◌<◌}
use mathlib.Core.Path.{◌≡◌, ap, ◌∙◌}
use mathlib.Core.List.{List, []}
use native.Mathlib.Omega.{arith}
use lib.Ieee.{nan}
use lib.ListN.{length, get_or, take, drop}
use lib.Seq.{length-take-le}
use Rattle.std.proofs.lemmas.List.{get_or-take, get_or-drop}
use Rattle.std.specs.Simd.{first_chunks}
use Rattle.load.specs.Load.{most_byte}
use Rattle.load.proofs.Planes.{laid_more, laid_all}
use Rattle.load.proofs.Shown.{value_is}
use Rattle.load.proofs.load_planes.Goals as goal

-- number j of chunk i
in_chunk : (m k i j : ℕ) (l : List ℕ) → i < k → j < m → get_or (get_or (first_chunks m k l) i []) j 0 ≡ get_or l (m * i + j) 0
in_chunk m zero i j l a b = absurd (omega arith)
in_chunk m (suc k) zero j l a b =
    let e : j ≡ m * 0 + j = omega arith in
    get_or-take m l j 0 b ∙ ap (λ (p : ℕ). get_or l p 0) e
in_chunk m (suc k) (suc i) j l a b =
    let e : m + (m * i + j) ≡ m * suc i + j = omega arith in
    in_chunk m k i j (drop m l) (omega arith) b ∙ get_or-drop m l (m * i + j) 0 ∙ ap (λ (p : ℕ). get_or l p 0) e

pub loop-i-preserved : goal.loop-i-preserved
loop-i-preserved c =
    let a = c.args in
    let pixels = a.pixels.now in
    let chunks = c.as_chunks.result.0.now in
    let n = a.height * a.width in
    let i = c.loop-i.i in
    let count : length chunks ≡ length pixels / 4 = c.as_chunks.ensures.front_len in
    let front : chunks ≡ first_chunks 4 (length pixels / 4) pixels = c.as_chunks.ensures.front in
    let l : i < n = omega (arith, length-take-le n chunks (omega arith)) in
    let byte : (j : ℕ) → j < 4 → get_or (get_or (take n chunks) i []) j 0 ≡ get_or pixels (4 * i + j) 0 =
    λ j b. rw (get_or-take n chunks i [] l, front) (in_chunk 4 (length pixels / 4) i j pixels (omega arith) b) in
    let value = value_is most_byte a.height a.width pixels in (
      omega arith,
      laid_more nan _ _ c.loop-i.invariant.1 l c.requires.room.1
          (c.level.ensures ∙ value 0 i _ _ (byte 2 (omega arith)) (omega arith))
          (c.level-in-loop-i.ensures ∙ value 1 i _ _ (byte 1 (omega arith)) (omega arith))
          (c.level-in-loop-i-2.ensures ∙ value 2 i _ _ (byte 0 (omega arith)) (omega arith)),
    )

pub returns : goal.returns
returns c =
    let n = c.args.height * c.args.width in
    let chunks = c.as_chunks.result.0.now in
    let count : length chunks ≡ length c.args.pixels.now / 4 = c.as_chunks.ensures.front_len in
    let e : c.loop-i.i ≡ n = omega (arith, length-take-le n chunks (omega arith)) in
    laid_all nan _ _ (rw e at c.loop-i.invariant.1) c.requires.room.1
