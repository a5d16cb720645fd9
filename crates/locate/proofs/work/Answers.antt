-- The last picture, and the two ways on from it.
use Rattle.locate.specs.Locate.{lent}
use Rattle.locate.proofs.Working.{leads, works_small, works_read}
use Rattle.locate.proofs.work.Goals as goal

pub returns-then-l : goal.returns-then-l
returns-then-l c =
    let a = c.args in
    let slices = lent a.planes.now a.edges.now a.scores.now a.scratch_f32.now a.scratch_u8.now a.scratch_u32.now in
    let last = c.last_picture-l.ensures in
    works_small a.b a.factor.value slices a.factor.in_range c.requires.fit c.requires.room last.0 last.1 _ _ _
    c.if-l.true
    (rw c.resized.ensures at c.declined.ensures)

pub read_from-requires : goal.read_from-requires
read_from-requires c =
    let a = c.args in
    let slices = lent a.planes.now a.edges.now a.scores.now a.scratch_f32.now a.scratch_u8.now a.scratch_u32.now in
    let last = c.last_picture-l.ensures in
    leads a.b a.factor.value slices a.factor.in_range c.requires.fit c.requires.room last.0 last.1 c.if-l.false

pub returns : goal.returns
returns c =
    let a = c.args in
    let slices = lent a.planes.now a.edges.now a.scores.now a.scratch_f32.now a.scratch_u8.now a.scratch_u32.now in
    let last = c.last_picture-l.ensures in
    works_read a.b a.factor.value slices a.factor.in_range c.requires.fit c.requires.room last.0 last.1 c.if-l.false _ _ _
    c.read_from.ensures
