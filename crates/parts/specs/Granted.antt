-- The sheets that a group grants a model.
use Rattle.std.specs.Prelude.{ℕ, zero, suc, cond, List, [], ◌∷◌, ◌++◌}
use Rattle.bits.specs.Granted.{granted}

-- the granted sheets below k, by rising number
unfoldable pub granted_below : List ℕ → ℕ → ℕ → List ℕ
granted_below grants m zero = []
granted_below grants m (suc k) = granted_below grants m k ++ cond (granted grants m k) (k ∷ []) []
