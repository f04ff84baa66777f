-- The bit of a word at a place, and a word after a tick.
use Rattle.std.specs.Prelude.{Bool, ◌&&◌, List, ℕ, ◌-◌, ◌/◌, ◌%◌, ◌^◌, eqb, leb, get_or}
use Rattle.std.specs.Int.Bits.{bit_and, bit_or}
use Rattle.base.specs.First.{first}

-- how many bits a word has
abbrev pub width : ℕ
width = 64

-- bit i of w is set
unfoldable pub bit : ℕ → ℕ → Bool
bit w i = eqb (w / 2 ^ i % 2) 1

-- bit i of word k of a list
unfoldable pub bit_in : List ℕ → ℕ → ℕ → Bool
bit_in ws k i = bit (get_or ws k 0) i

-- the first place from `from` on whose bit is set; the width where there is none
unfoldable pub next_bit : ℕ → ℕ → ℕ
next_bit w from = first (λ i. leb from i && bit w i) width

-- w with bit i set
abbrev pub with_bit : ℕ → ℕ → ℕ
with_bit w i = bit_or w (2 ^ i)

-- what is in after a tick: what was in and is not gone, and what has come
abbrev pub after_word : ℕ → ℕ → ℕ → ℕ
after_word was gone come = bit_or (bit_and was ((2 ^ width - 1) - gone)) come
