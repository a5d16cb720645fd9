use Rattle.std.proofs.Common.{◌≡◌, ◌+◌, sym, ◌∙◌, arith}
use Rattle.board.proofs.Units.{units_up_to, no_unit_up_to}
use Rattle.board.proofs.values.all_units.Goals as goal

pub returns-then-not-are_units : goal.returns-then-not-are_units
returns-then-not-are_units c =
    no_unit_up_to c.loop-from.from c.min.result c.args.n c.args.planes.now (omega arith) (omega arith) c.loop-from.invariant.1
    (sym c.are_units.ensures ∙ c.if-not-are_units.true)

pub loop-from-preserved : goal.loop-from-preserved
loop-from-preserved c =
    let planes = c.args.planes.now in
    let to = c.loop-from.from + 4096 in
    let e : c.min.result ≡ to = omega arith in (
      omega arith,
      rw (units_up_to c.loop-from.from to planes (omega arith), c.loop-from.invariant.1, ← e, ← c.are_units.ensures) c.if-not-are_units.false,
    )

pub returns : goal.returns
returns c = let e : c.args.n ≡ c.loop-from.from = omega arith in rw e (sym c.loop-from.invariant.1)

pub returns-else-not-are_units : goal.returns-else-not-are_units
returns-else-not-are_units c =
    let e : c.min.result ≡ c.args.n = omega arith in
    rw (units_up_to c.loop-from.from c.args.n c.args.planes.now (omega arith), c.loop-from.invariant.1, ← e, ← c.are_units.ensures)
    (sym c.if-not-are_units.false)
