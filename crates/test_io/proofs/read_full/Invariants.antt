use Rattle.std.proofs.Common.{length, ◌-◌, ◌≤◌, ◌≡◌}
use Rattle.test_io.proofs.read_full.Given as goal

abbrev pub invariant-loop-had : goal.invariant-loop-had
invariant-loop-had g l = (l.had ≤ length l.buf) × (length l.buf ≡ length l.initial.buf)

abbrev pub decreases-loop-had : goal.decreases-loop-had
decreases-loop-had g l = length l.initial.buf - l.had
