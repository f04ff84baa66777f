-- How many numbers pass a test. A count of models or of sheets is this one.
use Rattle.std.specs.Prelude.{Bool, cond, ℕ, zero, suc, ◌+◌}

-- how many k below n pass p
unfoldable pub how_many : (ℕ → Bool) → ℕ → ℕ
how_many p zero = zero
how_many p (suc n) = how_many p n + cond (p n) 1 0
