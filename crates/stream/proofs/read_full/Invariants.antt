use Rattle.std.proofs.Common.{◌≡◌, ◌-◌, length}
use Rattle.stream.specs.Inner.{ReadInto}
use Rattle.stream.proofs.read_full.Given as goal

abbrev pub invariant-loop-n : goal.invariant-loop-n
invariant-loop-n g l = (length l.buf ≡ length l.initial.buf) × ReadInto (g.R.Read.remaining l.initial.from) (g.R.Read.remaining l.from) l.buf l.n

abbrev pub decreases-loop-n : goal.decreases-loop-n
decreases-loop-n g l = length l.initial.buf - l.n
