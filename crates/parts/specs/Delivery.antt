-- The bytes of a delivery.
use Rattle.std.specs.Prelude.{ℕ, ◌+◌, List, [], ◌∷◌, ◌++◌, length, take, drop}
use Rattle.rules.specs.Ranges.{sheets}
use Rattle.wire.specs.Word.{bytes32}
use Rattle.store.specs.Entry.{offset, sheet_length}
use Rattle.parts.specs.Granted.{granted_below}
use Rattle.parts.specs.declared.Sums.{Sums}

-- the store's bytes of sheet s
unfoldable pub sheet_bytes : List ℕ → ℕ → List ℕ
sheet_bytes b s = take (sheet_length b s) (drop (offset b s) b)

-- For each granted sheet: number, length, bytes.
unfoldable pub part : List ℕ → ℕ → List ℕ
part b s = bytes32 s ++ (bytes32 (sheet_length b s) ++ sheet_bytes b s)

unfoldable pub parts : List ℕ → List ℕ → List ℕ
parts b [] = []
parts b (s ∷ ss) = part b s ++ parts b ss

-- the length of a delivery of these sheets: two words, and the parts
abbrev pub delivery_length : List ℕ → List ℕ → ℕ
delivery_length b ss = 8 + length (parts b ss)

-- Delivery to a model from one group: sheet count, total delivery length, then for each granted sheet by rising number: number, length, bytes.
abbrev pub delivery_of : List ℕ → List ℕ → List ℕ
delivery_of b ss = bytes32 (length ss) ++ (bytes32 (delivery_length b ss) ++ parts b ss)

abbrev pub granted_sheets : List ℕ → ℕ → List ℕ
granted_sheets grants m = granted_below grants m sheets

-- how many granted sheets there are, and how long their delivery is
abbrev pub sums_of : List ℕ → ℕ → List ℕ → Sums
sums_of grants m b = record { count = length (granted_sheets grants m); total = delivery_length b (granted_sheets grants m) }
