-- The list of the granted sheets, sheet by sheet. Assumes nothing.
use mathlib.Core.Path.{◌≡◌, refl, ap₂}
use mathlib.Core.Bool.{Bool, true, false, cond}
use mathlib.Core.List.{List, [], ◌∷◌, ◌++◌, append-nil}
use Prim.Native.Nat.{ℕ, zero, suc, ◌+◌, ◌<◌}
use native.Mathlib.Numerals.{add-one}
use native.Mathlib.Omega.{arith}
use Rattle.bits.specs.Granted.{granted}
use Rattle.parts.specs.Granted.{granted_below}

module _ (grants : List ℕ) (m s : ℕ) where
  pub below_in : granted grants m s ≡ true → granted_below grants m (s + 1) ≡ granted_below grants m s ++ (s ∷ [])
  unfolding granted_below
  below_in e = rw (add-one s, e)

  pub below_out : granted grants m s ≡ false → granted_below grants m (s + 1) ≡ granted_below grants m s
  unfolding granted_below
  below_out e = rw (add-one s, e, append-nil)

-- the same bits give the same list
pub below_same : (grants grants' : List ℕ) (m n : ℕ) → ((s : ℕ) → s < n → granted grants m s ≡ granted grants' m s) → granted_below grants m n ≡ granted_below grants' m n
unfolding granted_below
below_same grants grants' m zero h = refl
below_same grants grants' m (suc n) h =
    ap₂ (λ (l : List ℕ) (t : Bool). l ++ cond t (n ∷ []) []) (below_same grants grants' m n (λ s l. h s (omega arith))) (h n (omega arith))
