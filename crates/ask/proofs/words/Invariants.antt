use Rattle.std.proofs.Common.{◌≤◌}
use Rattle.ask.proofs.words.Given as goal

abbrev pub invariant-loop-k : goal.invariant-loop-k
invariant-loop-k l = l.count ≤ 5
