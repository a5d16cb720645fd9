use Rattle.std.proofs.Common.{ℕ, ◌+◌, ◌-◌, arith, ap, drop, ◌∙◌}
use Rattle.std.proofs.lemmas.List.{get_or-take, get_or-drop}
use Rattle.header.proofs.Numbers.{worth_small, worth_more, value_more}
use Rattle.header.proofs.number.Goals as goal

pub overflow_mul-value : goal.overflow_mul-value
overflow_mul-value c = omega (arith, worth_small c.loop-b.b-index (omega arith))

pub overflow_add-value : goal.overflow_add-value
overflow_add-value c = omega (arith, worth_small c.loop-b.b-index (omega arith))

pub loop-b-preserved : goal.loop-b-preserved
loop-b-preserved c =
    let a = c.args in
    let k = c.loop-b.b-index in
    let v = c.loop-b.value in
    let read = get_or-take (a.end - a.from) (drop a.from a.bytes.now) k 0 (omega arith) ∙ get_or-drop a.from a.bytes.now k 0 in
    let digit = c.from.ensures ∙ c.saturating_sub.ensures ∙ ap (λ (b : ℕ). b - 48) read in
    record {
      small = worth_more k v c.from.result c.loop-b.invariant.small (omega (arith, c.type_inv.bytes (a.from + k)));
      whole = value_more a.bytes.now (a.from + k) (a.from + (k + 1)) a.end v c.from.result (omega arith) (omega arith) digit
          ∙ c.loop-b.invariant.whole;
    }
