-- The grants after a tick: "256 words of 64 bits, one word a sheet, one bit a model".
use Rattle.std.specs.Prelude.{◌≡◌, Bool, cond, List, ℕ, ◌-◌, ◌^◌, length, get_or}
use Rattle.std.specs.Int.Bits.{bit_and, bit_or}
use Rattle.base.specs.Table.{table}
use Rattle.rules.specs.Ranges.{sheets}
use Rattle.bits.specs.Bit.{width}
use Rattle.sets.specs.Set.{Words, has}

-- n words
pub record Sized (n : ℕ) (ws : List ℕ) : Type 0 where
  pub long : length ws ≡ n
  pub words : Words ws

-- a sheet's word: kept where neither SR nor SL ends it; with an add, the models that are in now; while in by LA, the models with an LJ
unfoldable pub closed_word : ℕ → Bool → Bool → Bool → ℕ → ℕ → ℕ → ℕ
closed_word word sr add liberal members sl lj =
    bit_or
    (bit_or
    (cond sr 0 (bit_and word ((2 ^ width - 1) - sl)))
    (cond add members 0))
    (cond liberal lj 0)

-- every sheet's word after a tick, from the words before and the tick's sets
unfoldable pub closed_words : List ℕ → List ℕ → List ℕ → List ℕ → ℕ → ℕ → ℕ → List ℕ
closed_words words sr adds liberal members sl lj =
    table sheets (λ s. closed_word (get_or words s 0) (has sr s) (has adds s) (has liberal s) members sl lj)
