-- The spans, computed tick by tick: a twin of the statement in Spans.antt, for promises to name.
use Rattle.std.specs.Prelude.{Bool, cond, List, [], ◌∷◌, ◌++◌, ℕ, zero, suc}
use Rattle.formula.specs.Formula.{History}
use Rattle.formula.specs.Ticks.{grant}
use Rattle.spanning.specs.Spans.{Span}

-- A span is open since its first tick; 0 stands for no span. Where the grant holds at tick t, the open span goes on, or one begins.
abbrev pub opened_at : ℕ → ℕ → ℕ
opened_at zero t = t
opened_at (suc f) t = suc f

-- the open span, ended at tick t
abbrev pub ended_at : ℕ → ℕ → List Span
ended_at zero t = []
ended_at (suc f) t = record { first = suc f; last = t } ∷ []

-- of the n ticks after b, with the span that is open at b
unfoldable pub spans_from : (ℕ → Bool) → ℕ → ℕ → ℕ → List Span
spans_from holds first b zero = ended_at first b
spans_from holds first b (suc n) =
    cond (holds (suc b)) (spans_from holds (opened_at first (suc b)) (suc b) n) (ended_at first b ++ spans_from holds 0 (suc b) n)

-- "An open span ends at now."
abbrev pub spans_of : History → History → ℕ → List Span
spans_of model sheet now = spans_from (grant model sheet) 0 0 now
