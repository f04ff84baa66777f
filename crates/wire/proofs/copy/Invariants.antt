-- `wire::copy` meets its contract. What is copied so far stands in front of what is left to overwrite. Assumes nothing.
use mathlib.Core.Path.{◌≡◌}
use mathlib.Core.List.{List, ◌++◌}
use Prim.Native.Nat.{ℕ}
use lib.ListN.{take, drop}
use Rattle.wire.proofs.copy.Given as goal

abbrev pub copied : List ℕ → List ℕ → ℕ → List ℕ
copied from to i = take i from ++ drop i to

abbrev pub invariant-loop-i : goal.invariant-loop-i
invariant-loop-i l = l.to ≡ copied l.from l.initial.to l.i
