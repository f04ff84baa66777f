-- Lists that look like spans and aren't: for each wrong way to tell them, two strips and the list that it gives. The statement shuts each of them out.
-- Assumes nothing.
use mathlib.Core.Path.{◌≡◌, refl, ap}
use mathlib.Core.List.{List, [], ◌∷◌, map}
use mathlib.Core.Bool.{Bool, true, not, ◌&&◌}
use Prim.Native.Nat.{ℕ, ◌+◌, ◌*◌}
use lib.Dec.{eqb}
use borrow.Author.Tests.{eqb-false, not-true}
use Rattle.base.proofs.Truth.{both}
use Rattle.rules.specs.Kinds.{SJ, LJ, SL, LL, SA, LA}
use Rattle.event.specs.Word.{word_of}
use Rattle.formula.specs.Since.{since}
use Rattle.formula.specs.Ticks.{inside, liberal, by_add, by_join, grant}
use Rattle.strip.specs.History.{history_of}
use Rattle.span.specs.Answer.{spans_in}
use Rattle.spanning.specs.Spans.{Span, Spans}
use Rattle.spanning.specs.SpansOf.{spans_from}
use Rattle.spanning.proofs.Exactly.{only_spans}

pub record Row : Type 0 where
  pub model : List ℕ
  pub sheet : List ℕ
  pub now : ℕ
  pub right : List Span
  pub wrong : List Span

-- an event of carrier 0
abbrev word : ℕ → ℕ → ℕ
word kind t = word_of t kind 0

abbrev span : ℕ → ℕ → Span
span a b = record { first = a; last = b }

row : List ℕ → List ℕ → ℕ → List Span → List Span → Row
row m s now right wrong = record { model = m; sheet = s; now = now; right = right; wrong = wrong }

unfoldable pub rows : List Row
unfolding row
rows =
    -- two with one tick between, merged
    row (word LJ 1 ∷ word SL 2 ∷ word LJ 3 ∷ []) (word LA 1 ∷ []) 3 (span 1 1 ∷ span 3 3 ∷ []) (span 1 3 ∷ [])
    -- a new one at a new moment of a grant that still holds
    ∷ row (word LJ 1 ∷ word LL 2 ∷ word LJ 3 ∷ []) (word LA 1 ∷ []) 3 (span 1 3 ∷ []) (span 1 2 ∷ span 3 3 ∷ [])
    -- one that ends at the strict event's own tick
    ∷ row (word SJ 1 ∷ word SL 3 ∷ []) (word SA 2 ∷ []) 4 (span 2 2 ∷ []) (span 2 3 ∷ [])
    -- an open one that ends at the last event
    ∷ row (word SJ 1 ∷ []) (word SA 2 ∷ []) 5 (span 2 5 ∷ []) (span 2 2 ∷ [])
    -- the last one forgotten
    ∷ row (word SJ 1 ∷ []) (word SA 2 ∷ []) 5 (span 2 5 ∷ []) []
    -- one that begins at the join where the add came later
    ∷ row (word SJ 1 ∷ []) (word SA 3 ∷ []) 5 (span 3 5 ∷ []) (span 1 5 ∷ [])
    ∷ []

-- what the spans of each row are, computed
rows_right : map (λ (r : Row). spans_in r.model r.sheet r.now) rows ≡ map (λ (r : Row). r.right) rows
unfolding rows row since inside liberal by_add by_join grant history_of spans_from
rows_right = refl

-- a number that tells lists of small ticks apart
code : List Span → ℕ
code [] = 0
code (p ∷ l) = p.first + 10 * p.last + 100 * code l

differs : Row → Bool
differs r = not (eqb (code r.wrong) (code (spans_in r.model r.sheet r.now)))

-- a list that differs from the spans is not the spans
abbrev pub ShutOut : Row → Type 0
ShutOut r = Spans (history_of r.model) (history_of r.sheet) r.now r.wrong → ⊥

shut_out : (r : Row) → differs r ≡ true → ShutOut r
unfolding differs
shut_out r d x = eqb-false _ _ (not-true _ d) (ap code ((only_spans (history_of r.model) (history_of r.sheet) r.now r.wrong).0 x))

unfoldable pub Each : (Row → Type 0) → List Row → Type 0
Each P [] = Unit {0}
Each P (r ∷ l) = P r × Each P l

every : List Row → Bool
every [] = true
every (r ∷ l) = differs r && every l

each : (l : List Row) → every l ≡ true → Each ShutOut l
unfolding every Each
each [] e = tt
each (r ∷ l) e = let b = both (differs r) (every l) e in (shut_out r b.0, each l b.1)

-- the statement shuts out every wrong list
pub wrong_shut_out : Each ShutOut rows
unfolding rows row since inside liberal by_add by_join grant history_of spans_from code differs every
wrong_shut_out = each rows refl
