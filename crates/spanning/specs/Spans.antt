-- When the grant held: what it is for a list of pairs to be the spans of two histories up to now. proofs/Exactly.antt shows that exactly one list is.
use Rattle.std.specs.Prelude.{List, [], ◌∷◌, ◌⊎◌, ◌↔◌, ℕ, suc, ◌≤◌, ◌<◌}
use Rattle.formula.specs.Formula.{History, Grant}

-- "pairs (first tick, last tick)"
pub record Span : Type 0 where
  pub first : ℕ
  pub last : ℕ

-- every pair has first ≤ last ≤ now and begins after tick b; the pairs rise, and the next leaves at least one tick after the last
unfoldable pub Apart : ℕ → ℕ → List Span → Type 0
Apart b now [] = Unit {0}
Apart b now (p ∷ l) = (b < p.first) × (p.first ≤ p.last) × (p.last ≤ now) × Apart (suc p.last) now l

-- tick t lies in a pair
unfoldable pub LiesIn : ℕ → List Span → Type 0
LiesIn t [] = ⊥
LiesIn t (p ∷ l) = ((p.first ≤ t) × (t ≤ p.last)) ⊎ LiesIn t l

-- "A tick lies in a span exactly when the formula holds there; neighbouring spans leave at least one tick between them."
pub record Spans (model sheet : History) (now : ℕ) (l : List Span) : Type 0 where
  pub apart : Apart 0 now l
  pub exactly : (t : ℕ) → 1 ≤ t → t ≤ now → LiesIn t l ↔ Grant model sheet t
