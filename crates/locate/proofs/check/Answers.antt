-- Whether a slice is short matters only where the sides are within their limits.
use Rattle.std.proofs.Common.{◌≡◌, ◌∙◌, Err, sym, rules}
use Rattle.locate.specs.Locate.{lent}
use Rattle.board.proofs.Sides.{sides_pass}
use Rattle.board.proofs.Planes.{planes_fit}
use Rattle.locate.proofs.Checks.{checked_planes, none_short, short_same}
use Rattle.locate.proofs.check.Goals as goal

pub returns-in_err-check_planes-clause-answer : goal.returns-in_err-check_planes-clause-answer
returns-in_err-check_planes-clause-answer c =
    let a = c.args in
    let slices = lent a.planes.now a.edges.now a.scores.now a.scratch_f32.now a.scratch_u8.now a.scratch_u32.now in
    let value : c.in_ok-factor.factor.value ≡ a.factor = search rules in
    let refusal = c.in_err-check_planes.field-0.0 in
    let is : c.from_residual-in_err-check_planes.result ≡ Err refusal = search rules in
    rw is
    (checked_planes a.b a.factor slices (rw value at c.in_ok-factor.factor.in_range) (rw value at c.least_located-least.ensures)
    c.in_err-check_planes.ensures
    c.slices_short-short.ensures)

pub returns-clause-answer : goal.returns-clause-answer
returns-clause-answer c =
    let a = c.args in
    let slices = lent a.planes.now a.edges.now a.scores.now a.scratch_f32.now a.scratch_u8.now a.scratch_u32.now in
    let value : c.in_ok-factor.factor.value ≡ a.factor = search rules in
    checked_planes a.b a.factor slices (rw value at c.in_ok-factor.factor.in_range) (rw value at c.least_located-least.ensures)
    c.in_ok-check_planes.ensures
    c.slices_short-short.ensures

pub returns-clause-fit : goal.returns-clause-fit
returns-clause-fit c = rw c.least_located-least.ensures at (planes_fit _ _ _ _ _ (sym c.in_ok-check_planes.ensures)).0

pub returns-clause-room : goal.returns-clause-room
returns-clause-room c =
    let a = c.args in
    let slices = lent a.planes.now a.edges.now a.scores.now a.scratch_f32.now a.scratch_u8.now a.scratch_u32.now in
    let p = planes_fit _ _ _ _ _ (sym c.in_ok-check_planes.ensures) in
    none_short a.b.height a.b.width slices
    (sym (short_same a.b.height a.b.width slices) ∙ sym (c.slices_short-short.ensures (sides_pass p.0.sides)) ∙ p.1)
