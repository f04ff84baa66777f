-- `look::check` meets its contract. Its invariant is `Sums`: the sums of the granted sheets below the sheet at hand, none of which is faulty.
-- Assumes nothing.
use Rattle.parts.proofs.Summed.{Sums}
use Rattle.look.proofs.check.Given as goal

abbrev pub invariant-loop-sheet : goal.invariant-loop-sheet
invariant-loop-sheet l = Sums l.grants l.model l.store l.sheet l.count l.total
