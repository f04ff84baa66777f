use mathlib.Core.Path.{◌≡◌, ap, ◌∙◌}
use mathlib.Core.List.{List, ◌++◌}
use Prim.Native.Nat.{ℕ, ◌+◌, ◌<◌}
use native.Mathlib.Numerals.{add-one}
use native.Mathlib.Omega.{arith}
use lib.ListN.{length, get_or, take, set}
use lib.Seq.{length-take-le, take-suc, drop-cons, set_at, append_snoc}
use Rattle.wire.proofs.copy.Invariants.{copied}
use Rattle.wire.proofs.copy.Goals as goal

-- a store of the next byte copies one more
more : (from to : List ℕ) (i : ℕ) → i < length from → i < length to → set (copied from to i) i (get_or from i 0) ≡ copied from to (i + 1)
more from to i hf ht =
    ap (λ (l : List ℕ). set (take i from ++ l) i (get_or from i 0)) (drop-cons to i 0 ht)
    ∙ rw (set_at (take i from) _ _ _ i (length-take-le i from (omega arith)), add-one i, take-suc from i 0, append_snoc)

pub loop-i-preserved : goal.loop-i-preserved
loop-i-preserved c =
    ap (λ (l : List ℕ). set l c.loop-i.i (get_or c.args.from.now c.loop-i.i 0)) c.loop-i.invariant ∙ more c.args.from.now c.args.to.now c.loop-i.i (omega arith) (omega arith)
