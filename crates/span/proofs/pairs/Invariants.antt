-- The loop keeps what is left of the spans; a turn takes the events of the next tick.
use Prim.Native.Nat.{◌+◌, ◌-◌}
use lib.ListN.{length}
use Rattle.span.proofs.Going.{Going}
use Rattle.span.proofs.pairs.Given as goal

abbrev pub invariant-loop-pass : goal.invariant-loop-pass
invariant-loop-pass l = Going l.m l.s l.now l.initial.list l.pass l.spanning l.list

abbrev pub decreases-loop-pass : goal.decreases-loop-pass
decreases-loop-pass l = (length l.m + length l.s) - (l.pass.i + l.pass.j)
