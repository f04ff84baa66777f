-- `bits::next_bit` meets its contract: behind the shift, the zeros at the low end are the places to pass over.
use mathlib.Core.Path.{◌≡◌, sym, ap, ◌∙◌}
use Prim.Native.Nat.{ℕ, ◌+◌, ◌-◌, ◌/◌, ◌^◌}
use native.Mathlib.Omega.{arith}
use lib.Count.{count_trailing_zeros}
use Rattle.bits.specs.Bit.{bit}
use Rattle.bits.proofs.Next.{next_none, next_is, zeros_unset, zeros_set, bit_shifted}
use Rattle.bits.proofs.next_bit.Goals as goal

pub returns-then-from-ge-WIDTH : goal.returns-then-from-ge-WIDTH
returns-then-from-ge-WIDTH c = sym (next_none c.args.word c.args.from (λ i l h. absurd (omega arith)))

pub returns-then-zeros-from : goal.returns-then-zeros-from
returns-then-zeros-from c =
    sym (next_none c.args.word c.args.from (λ i l h. bit_shifted c.args.word c.args.from i l ∙ zeros_unset 64 (c.args.word / 2 ^ c.args.from) (i - c.args.from) (omega arith)))

pub returns : goal.returns
returns c =
    let zeros : ℕ = count_trailing_zeros 64 (c.args.word / 2 ^ c.args.from) in
    let back : (c.args.from + zeros) - c.args.from ≡ zeros = omega arith in
    sym (next_is c.args.word c.args.from (c.args.from + zeros) (omega arith) (omega arith)
    (bit_shifted c.args.word c.args.from (c.args.from + zeros) (omega arith) ∙ ap (bit (c.args.word / 2 ^ c.args.from)) back ∙ zeros_set 64 (c.args.word / 2 ^ c.args.from) (omega arith))
    (λ i l h. bit_shifted c.args.word c.args.from i l ∙ zeros_unset 64 (c.args.word / 2 ^ c.args.from) (i - c.args.from) (omega arith)))
