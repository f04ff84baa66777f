-- `grants::lose` meets its contract: a pass over the sheets, the first s of which have their new words.
use mathlib.Core.Path.{◌≡◌}
use Rattle.base.proofs.Front.{front}
use Rattle.grants.specs.Gain.{lost_words}
use Rattle.grants.proofs.lose.Given as goal

abbrev pub invariant-loop-word : goal.invariant-loop-word
invariant-loop-word l = l.words ≡ front (lost_words l.initial.words l.sl) l.initial.words l.word-index
