-- A delivery as its reader finds it, and what it is to hold the sheets that one may have and no others, unaltered.
use Rattle.std.specs.Prelude.{◌≡◌, List, [], ◌∷◌, ◌++◌, map, ℕ, zero, suc, ◌+◌, ◌<◌, length, get_or, take, drop}
use Rattle.rules.specs.Ranges.{sheets}
use Rattle.wire.specs.Word.{le32, bytes32}
use Rattle.parts.specs.Delivery.{sheet_bytes}
use Rattle.parts.specs.Listed.{listed}

-- "number, length, bytes"
pub record Part : Type 0 where
  pub number : ℕ
  pub bytes : List ℕ

-- the first n parts of d, each as long as its own length says
unfoldable pub parts_of : List ℕ → ℕ → List Part
parts_of d zero = []
parts_of d (suc n) = record { number = le32 d 0; bytes = take (le32 d 4) (drop 8 d) } ∷ parts_of (drop (8 + le32 d 4) d) n

-- behind the sheet count and the total length
abbrev pub parts_in : List ℕ → List Part
parts_in d = parts_of (drop 8 d) (le32 d 0)

-- parts as bytes, one behind the other, with nothing between them
unfoldable pub flat_parts : List Part → List ℕ
flat_parts [] = []
flat_parts (p ∷ ps) = (bytes32 p.number ++ (bytes32 (length p.bytes) ++ p.bytes)) ++ flat_parts ps

-- a sheet with the bytes that the store has of it
abbrev pub stored : List ℕ → ℕ → Part
stored store s = record { number = s; bytes = sheet_bytes store s }

-- what buffer d, which was `out` before, holds after a delivery of total length n from a store to one who may have the sheets P
pub record Holds (P : ℕ → Type 0) (store out : List ℕ) (n : ℕ) (d : List ℕ) : Type 0 where
  -- a sheet is listed exactly when one may have it, by rising number
  pub only : (i : ℕ) → i < length (listed d) → (get_or (listed d) i 0 < sheets) × P (get_or (listed d) i 0)
  pub every : (s : ℕ) → s < sheets → P s → (i : ℕ) × (i < length (listed d)) × (get_or (listed d) i 0 ≡ s)
  pub rising : (i j : ℕ) → i < j → j < length (listed d) → get_or (listed d) i 0 < get_or (listed d) j 0
  -- each with the store's bytes, unaltered
  pub unaltered : parts_in d ≡ map (stored store) (listed d)
  -- the first two words
  pub count : le32 d 0 ≡ length (listed d)
  pub total : le32 d 4 ≡ n
  -- the first n bytes are these two words and the parts, and nothing else
  pub whole : take n d ≡ bytes32 (length (listed d)) ++ (bytes32 n ++ flat_parts (parts_in d))
  pub exact : n ≡ 8 + length (flat_parts (parts_in d))
  -- "Bytes beyond it stay", and the buffer is as long as it was
  pub beyond : drop n d ≡ drop n out
  pub long : length d ≡ length out
