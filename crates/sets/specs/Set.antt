-- A set of numbers kept as a list of words: number i is bit i % 64 of word i / 64. Nothing here depends on how many words there are.
use Rattle.std.specs.Prelude.{Bool, List, ℕ, ◌/◌, ◌%◌, ◌^◌, ◌<◌, get_or, set, replicate}
use Rattle.std.specs.Int.Bits.{bit_or}
use Rattle.base.specs.Table.{table}
use Rattle.bits.specs.Bit.{width, bit, with_bit, after_word}

-- the empty set, of n words
abbrev pub none : ℕ → List ℕ
none n = replicate n 0

-- i is in the set
unfoldable pub has : List ℕ → ℕ → Bool
has ws i = bit (get_or ws (i / width) 0) (i % width)

-- the set and i
unfoldable pub with : List ℕ → ℕ → List ℕ
with ws i = set ws (i / width) (with_bit (get_or ws (i / width) 0) (i % width))

-- what is in one of two sets of n words
unfoldable pub either : ℕ → List ℕ → List ℕ → List ℕ
either n xs ys = table n (λ k. bit_or (get_or xs k 0) (get_or ys k 0))

-- what is in after a tick, of n words: what was in and is not gone, and what has come
unfoldable pub after : ℕ → List ℕ → List ℕ → List ℕ → List ℕ
after n was gone come = table n (λ k. after_word (get_or was k 0) (get_or gone k 0) (get_or come k 0))

-- each word of a list fits a machine word
abbrev pub Words : List ℕ → Type 0
Words ws = (k : ℕ) → get_or ws k 0 < 2 ^ width
