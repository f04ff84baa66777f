-- `fill` ends, since each turn leaves less to fill.
use Rattle.std.proofs.Common.{length, ◌-◌, ◌≤◌}
use Rattle.lines.proofs.fill.Given as goal

abbrev pub invariant-loop-done : goal.invariant-loop-done
invariant-loop-done g l = l.done ≤ length l.buffer

abbrev pub decreases-loop-done : goal.decreases-loop-done
decreases-loop-done g l = length l.initial.buffer - l.done
