-- A list with another put into it.
use Rattle.std.specs.Prelude.{ℕ, ◌+◌, List, ◌++◌, length, take, drop}
use Rattle.wire.specs.Word.{bytes32}

-- d with l from place `at` on; what stands before and after it stays
unfoldable pub put : List ℕ → ℕ → List ℕ → List ℕ
put d at l = take at d ++ (l ++ drop (at + length l) d)

-- b with the word x from place `at` on
abbrev pub put32 : List ℕ → ℕ → ℕ → List ℕ
put32 b at x = put b at (bytes32 x)
