use mathlib.Core.Path.{refl}
use Prim.Native.Nat.{◌/◌}
use native.Mathlib.Omega.{arith}
use borrow.Author.Tests.{le-ltb}
use Rattle.bits.specs.Bit.{width}
use Rattle.grants.proofs.Apart.{upto_more, upto_all}
use borrow.Author.Rules.{rules}
use Rattle.grants.proofs.gain.Goals as goal

pub loop-k-init : goal.loop-k-init
loop-k-init c = (search rules, (c.requires, λ s h. rw (le-ltb (s / width) 0 (omega arith)) refl))

pub gain_word-requires : goal.gain_word-requires
gain_word-requires c = (c.loop-k.invariant.1.0, search rules)

pub loop-k-preserved : goal.loop-k-preserved
loop-k-preserved c = (
  search rules,
  upto_more c.args.words.now c.args.sr c.args.adds c.args.liberal c.args.members c.args.lj c.loop-k.k c.loop-k.words c.loop-k.invariant.1 _ _ _ _
      refl refl refl c.gain_word.ensures,
)

pub returns : goal.returns
returns c =
    upto_all c.args.words.now c.args.sr c.args.adds c.args.liberal c.args.members c.args.lj c.loop-k.k c.loop-k.words c.loop-k.invariant.1 (omega arith)
