-- The words of a close as the code makes them: first what an SL takes from all of them, then the rest of the tick. `closed_apart` of proofs/Apart.antt shows that this is the close.
use Rattle.std.specs.Prelude.{Bool, cond, List, ℕ, ◌-◌, ◌/◌, ◌%◌, ◌^◌, eqb, get_or}
use Rattle.std.specs.Int.Bits.{bit_and, bit_or}
use Rattle.base.specs.Table.{table}
use Rattle.rules.specs.Ranges.{sheets}
use Rattle.bits.specs.Bit.{width, bit}
use Rattle.sets.specs.Set.{has}

unfoldable pub lost_words : List ℕ → ℕ → List ℕ
lost_words words sl = table sheets (λ s. bit_and (get_or words s 0) ((2 ^ width - 1) - sl))

unfoldable pub gained_word : ℕ → Bool → Bool → Bool → ℕ → ℕ → ℕ
gained_word word sr add liberal members lj = bit_or (bit_or (cond sr 0 word) (cond add members 0)) (cond liberal lj 0)

unfoldable pub gained_words : List ℕ → List ℕ → List ℕ → List ℕ → ℕ → ℕ → List ℕ
gained_words words sr adds liberal members lj = table sheets (λ s. gained_word (get_or words s 0) (has sr s) (has adds s) (has liberal s) members lj)

-- the same in word k of the sheets alone, from that word of the tick's sets; the other sheets keep their words
unfoldable pub gained_in : ℕ → List ℕ → ℕ → ℕ → ℕ → ℕ → ℕ → List ℕ
gained_in k words sr adds liberal members lj =
    table sheets (λ s.
    cond (eqb (s / width) k)
    (gained_word (get_or words s 0) (bit sr (s % width)) (bit adds (s % width)) (bit liberal (s % width)) members lj)
    (get_or words s 0))

-- the sheets of one word of sheets whose grants may change: with an SR or an add, and where a model has an LJ, in by LA
abbrev pub changed_sheets : ℕ → ℕ → ℕ → ℕ → ℕ
changed_sheets sr adds liberal lj = bit_or (bit_or sr adds) (cond (eqb lj 0) 0 liberal)
