-- The first place where a test holds. A refusal that names a place names this one.
use Rattle.std.specs.Prelude.{ℕ, zero, suc, Bool, cond, ltb}

-- the least k below n at which p holds; n where there is none
unfoldable pub first : (ℕ → Bool) → ℕ → ℕ
first p zero = zero
first p (suc n) = cond (ltb (first p n) n) (first p n) (cond (p n) n (suc n))
