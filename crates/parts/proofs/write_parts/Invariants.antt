-- `parts::write_parts` meets its contract. Its invariant is `Filled`: the parts of the granted sheets below the sheet at hand stand in the buffer.
-- Assumes nothing.
use Rattle.parts.proofs.Filled.{Filled}
use Rattle.parts.proofs.write_parts.Given as goal

abbrev pub invariant-loop-sheet : goal.invariant-loop-sheet
invariant-loop-sheet l = Filled l.grants l.model l.store l.initial.out l.sheet l.at l.out
