-- The report's "since", over ticks, which count from 1: as a statement, and as a test that computes tick by tick. `says_since` of proofs/Says.antt ties the two.
use Rattle.std.specs.Prelude.{ℕ, zero, suc, ◌≤◌, ◌<◌, Bool, false, ◌&&◌, ◌||◌}

-- "p since q" at tick t: q held at some tick j no later than t, and p held at every tick after j up to and including t
abbrev pub Since : (ℕ → Type 0) → (ℕ → Type 0) → ℕ → Type 0
Since P Q t = (j : ℕ) × (1 ≤ j) × (j ≤ t) × Q j × ((k : ℕ) → j < k → k ≤ t → P k)

unfoldable pub since : (ℕ → Bool) → (ℕ → Bool) → ℕ → Bool
since p q zero = false
since p q (suc t) = q (suc t) || (p (suc t) && since p q t)
