-- `grants::gain` meets its contract: the sheets of the first k words have their new words.
use Prim.Native.Nat.{◌≤◌}
use Rattle.grants.specs.Gain.{gained_words}
use Rattle.grants.proofs.Apart.{Upto}
use Rattle.grants.proofs.gain.Given as goal

abbrev pub invariant-loop-k : goal.invariant-loop-k
invariant-loop-k l = (l.k ≤ 4) × Upto (gained_words l.initial.words l.sr l.adds l.liberal l.members l.lj) l.initial.words l.k l.words
