-- The part of a list that passes a test.
use Rattle.std.specs.Prelude.{Bool, cond, List, [], ◌∷◌, ℕ}

-- the words that pass a test, in their order
unfoldable pub keep : (ℕ → Bool) → List ℕ → List ℕ
keep p [] = []
keep p (w ∷ ws) = cond (p w) (w ∷ keep p ws) (keep p ws)
