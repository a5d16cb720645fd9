use Rattle.std.proofs.Common.{◌≡◌, ◌+◌, ◌-◌, ◌≤◌}
use Rattle.header.specs.Header.{value_at}
use Rattle.header.proofs.Numbers.{worth}
use Rattle.header.proofs.number.Given as goal

-- the value so far with the digits that are left is the whole number, and it is small
abbrev pub invariant-loop-b : goal.invariant-loop-b
invariant-loop-b l = record {
  small : l.value ≤ worth l.b-index;
  whole : value_at l.bytes (l.from + l.b-index) (l.end - (l.from + l.b-index)) l.value ≡ value_at l.bytes l.from (l.end - l.from) 0;
}
