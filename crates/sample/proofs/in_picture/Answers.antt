use Rattle.std.proofs.Common.{refl}
use Rattle.sample.proofs.in_picture.Goals as goal

pub returns-then-inside : goal.returns-then-inside
returns-then-inside c =
    let r = c.rows.ensures in
    let k = c.columns.ensures in
    let down = rw (r.0, r.1, r.2, r.3, r.4) at c.inside.ensures in
    let across = rw (k.0, k.1, k.2, k.3, k.4) at c.inside-then-inside.ensures in
    rw (← down, ← across, c.if-inside.true) refl
