-- The loop has taken the events up to some tick and knows the next of each strip; a turn takes those of the next tick.
use mathlib.Core.Path.{◌≡◌}
use Prim.Native.Nat.{◌+◌, ◌-◌}
use lib.ListN.{length}
use Rattle.stepping.specs.Next.{head_of}
use Rattle.stepping.proofs.Pass.{At}
use Rattle.judge.proofs.scan.scan.Given as goal

abbrev pub invariant-loop-i : goal.invariant-loop-i
invariant-loop-i l = At l.m l.s l.i l.j l.seen × (l.a ≡ head_of l.m l.i) × (l.b ≡ head_of l.s l.j)

abbrev pub decreases-loop-i : goal.decreases-loop-i
decreases-loop-i l = (length l.m + length l.s) - (l.i + l.j)
