-- The sheets that a delivery lists, as its reader finds them, and what it is for a list to have the granted sheets and no others.
use Rattle.std.specs.Prelude.{◌≡◌, true, List, [], ◌∷◌, ℕ, zero, suc, ◌+◌, ◌<◌, length, get_or, drop}
use Rattle.rules.specs.Ranges.{sheets}
use Rattle.wire.specs.Word.{le32}
use Rattle.bits.specs.Granted.{granted}

-- the numbers of the first n parts of d: each part tells by its length where the next begins
unfoldable pub numbers : List ℕ → ℕ → List ℕ
numbers d zero = []
numbers d (suc n) = le32 d 0 ∷ numbers (drop (8 + le32 d 4) d) n

-- the numbers in a delivery: as many as its first word says
abbrev pub listed : List ℕ → List ℕ
listed d = numbers (drop 8 d) (le32 d 0)

-- a sheet is in the list exactly when it is granted, and the list rises
pub record Exactly (grants : List ℕ) (m : ℕ) (l : List ℕ) : Type 0 where
  pub only : (i : ℕ) → i < length l → (get_or l i 0 < sheets) × (granted grants m (get_or l i 0) ≡ true)
  pub every : (s : ℕ) → s < sheets → granted grants m s ≡ true → (i : ℕ) × (i < length l) × (get_or l i 0 ≡ s)
  pub rising : (i j : ℕ) → i < j → j < length l → get_or l i 0 < get_or l j 0
