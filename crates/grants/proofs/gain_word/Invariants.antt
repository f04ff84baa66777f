-- `grants::gain_word` meets its contract: from one sheet that changes to the next, those before have their new words and those between keep theirs.
use mathlib.Core.Path.{◌≡◌}
use Prim.Native.Nat.{◌+◌, ◌-◌, ◌*◌, ◌≤◌}
use Rattle.base.proofs.Front.{front}
use Rattle.bits.specs.Bit.{width}
use Rattle.grants.specs.Gain.{gained_in}
use Rattle.grants.proofs.gain_word.Given as goal

abbrev pub invariant-loop-place : goal.invariant-loop-place
invariant-loop-place l = (l.place ≤ width) × (l.words ≡ front (gained_in l.k l.initial.words l.removed l.added l.inside l.members l.lj) l.initial.words (l.k * 64 + l.place))

abbrev pub decreases-loop-place : goal.decreases-loop-place
decreases-loop-place l = width - l.place
