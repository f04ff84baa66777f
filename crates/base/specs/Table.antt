-- The list of a rule's values. What an array holds after a pass over it is stated by one.
use Rattle.std.specs.Prelude.{List, [], ◌∷◌, ℕ, zero, suc}

module _ {A : Type 0} where
  -- f 0, f 1, .., f (n - 1)
  unfoldable pub table : ℕ → (ℕ → A) → List A
  table zero f = []
  table (suc n) f = f 0 ∷ table n (λ k. f (suc k))
