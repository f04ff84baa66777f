use mathlib.Core.Path.{refl, sym}
use Prim.Native.Nat.{◌-◌, ◌^◌}
use native.Mathlib.Omega.{arith}
use lib.Bits.{bit_and}
use Rattle.base.proofs.Front.{front_none, turn, last}
use Rattle.rules.specs.Ranges.{sheets}
use Rattle.bits.specs.Bit.{width}
use Rattle.grants.specs.Gain.{lost_words}
use borrow.Author.Rules.{rules}
use Rattle.grants.proofs.lose.Goals as goal

pub loop-word-init : goal.loop-word-init
loop-word-init c = sym (front_none _ _)

pub loop-word-preserved : goal.loop-word-preserved
unfolding lost_words
loop-word-preserved c =
    turn sheets (λ s word. bit_and word ((2 ^ width - 1) - c.args.sl)) c.args.words.now c.loop-word.words c.loop-word.word-index _ (search rules) c.loop-word.invariant refl

pub returns : goal.returns
unfolding lost_words
returns c =
    last sheets c.loop-word.word-index _ c.args.words.now c.loop-word.words c.requires.long (omega arith) c.loop-word.invariant
