-- `wire::decode` meets its contract. The words so far stand at the front, and what lies beyond them is as it was. Assumes nothing.
use mathlib.Core.Path.{◌≡◌}
use mathlib.Core.List.{List, ◌++◌}
use Prim.Native.Nat.{ℕ}
use lib.ListN.{drop}
use Rattle.wire.specs.Words.{words}
use Rattle.wire.proofs.decode.Given as goal

abbrev pub filled : List ℕ → List ℕ → ℕ → List ℕ
filled b out n = words b n ++ drop n out

abbrev pub invariant-loop-i : goal.invariant-loop-i
invariant-loop-i l = l.out ≡ filled l.b l.initial.out l.i
