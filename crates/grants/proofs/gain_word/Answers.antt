use Prim.Native.Nat.{◌+◌}
use native.Mathlib.Omega.{arith}
use Rattle.bits.proofs.Next.{next_le, next_from}
use Rattle.grants.proofs.Apart.{word_start, word_turn, word_end}
use borrow.Author.Rules.{rules}
use Rattle.grants.proofs.gain_word.Goals as goal

pub loop-place-init : goal.loop-place-init
loop-place-init c = (
  rw c.next_bit-place.ensures (next_le _ _),
  word_start c.args.k c.args.words.now c.args.removed c.args.added c.args.inside c.args.members c.args.lj _ _ c.requires.1 c.changed-change.ensures c.next_bit-place.ensures,
)

pub loop-place-smaller : goal.loop-place-smaller
loop-place-smaller c =
    let on = next_from c.changed-change.result (c.loop-place.place + 1) (omega arith) in
    omega (arith, on, c.next_bit-place-in-loop-place.ensures)

pub loop-place-preserved : goal.loop-place-preserved
loop-place-preserved c = (
  rw c.next_bit-place-in-loop-place.ensures (next_le _ _),
  word_turn c.args.k c.args.words.now c.args.removed c.args.added c.args.inside c.args.members c.args.lj _ _ c.loop-place.words c.loop-place.place _ _ _ _ c.requires.1 (search rules)
      c.changed-change.ensures c.next_bit-place-in-loop-place.ensures c.loop-place.invariant.1 c.gained.ensures
      c.has_bit-sr_here.ensures c.has_bit-add_here.ensures c.has_bit-in_here.ensures,
)

pub returns : goal.returns
returns c =
    word_end c.args.k c.args.words.now c.args.removed c.args.added c.args.inside c.args.members c.args.lj _ c.loop-place.place c.requires.1 c.requires.0 (omega arith) c.loop-place.invariant.1
