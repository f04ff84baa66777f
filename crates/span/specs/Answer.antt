-- The answer of `spans`, and the list that it was lent.
use Rattle.std.specs.Prelude.{Bool, cond, List, [], ◌∷◌, ℕ, ◌*◌, ltb, length, Result, Ok, Err}
use Rattle.rules.specs.Refusal.{refusal_number, refusal_place}
use Rattle.rules.specs.declared.refusal.Refusal.{Refusal}
use Rattle.rules.specs.declared.refusal.Refusal.TheVariants.{TooManySpans}
use Rattle.wire.specs.Put.{put}
use Rattle.strip.specs.History.{history_of}
use Rattle.judge.specs.Judge.{checked}
use Rattle.spanning.specs.Spans.{Span}
use Rattle.spanning.specs.SpansOf.{spans_of}
use Rattle.span.specs.declared.SpansAnswer.{SpansAnswer}

-- a list of numbers: each pair's first tick and last tick
unfoldable pub flat : List Span → List ℕ
flat [] = []
flat (p ∷ l) = p.first ∷ (p.last ∷ flat l)

-- the spans of two strips
abbrev pub spans_in : List ℕ → List ℕ → ℕ → List Span
spans_in m s now = spans_of (history_of m) (history_of s) now

-- "40 if the pairs don't fit"
abbrev pub crowded : List ℕ → List ℕ → ℕ → ℕ → Bool
crowded m s now room = ltb room (2 * length (spans_in m s now))

abbrev pub refused : ℕ → ℕ → SpansAnswer
refused code place = record { code = code; place = place; count = 0 }

-- an answer in numbers
abbrev pub counted : Result ℕ Refusal → SpansAnswer
counted (Ok count) = record { code = 0; place = 0; count = count }
counted (Err refusal) = refused (refusal_number refusal) (refusal_place refusal)

-- "10 to 14 as for the judge, then 40 if the pairs don't fit"; else the count
abbrev pub spans_answer : List ℕ → List ℕ → ℕ → ℕ → SpansAnswer
spans_answer m s now room =
    checked m s now (λ refusal. counted (Err refusal))
    (cond (crowded m s now room) (counted (Err TooManySpans)) (counted (Ok (length (spans_in m s now)))))

-- the pairs at the front of the list; "the rest of the list stays", and all of it after a refusal
abbrev pub list_after : List ℕ → List ℕ → ℕ → List ℕ → List ℕ
list_after m s now list =
    checked m s now (λ refusal. list) (cond (crowded m s now (length list)) list (put list 0 (flat (spans_in m s now))))
