-- Bytes as words, and words as bytes.
use Rattle.std.specs.Prelude.{ℕ, zero, suc, ◌/◌, List, [], ◌∷◌, ◌++◌, length, drop}
use Rattle.wire.specs.Word.{le32, bytes32}

-- the first n words of b
unfoldable pub words : List ℕ → ℕ → List ℕ
words b zero = []
words b (suc n) = le32 b 0 ∷ words (drop 4 b) n

-- the whole words of b
abbrev pub words_in : List ℕ → List ℕ
words_in b = words b (length b / 4)

-- the bytes of the words, one word after the other
unfoldable pub bytes : List ℕ → List ℕ
bytes [] = []
bytes (w ∷ ws) = bytes32 w ++ bytes ws
