-- "The evidence is a part of one of the two lent strips: from the add record in the sheet's strip, or from the join record in the model's strip, to that strip's end. Denied or refused: the empty part at the start of the model's strip."
use Rattle.std.specs.Prelude.{ℕ, List, [], eqb, length, get_or, drop, Result, Ok, Err}
use Rattle.std.specs.Borrow.{Bor}
use Rattle.base.specs.First.{first}
use Rattle.base.specs.Part.{word_at}
use Rattle.rules.specs.declared.refusal.Refusal.{Refusal}
use Rattle.event.specs.Word.{tick_of}
use Rattle.formula.specs.declared.Verdict.{Verdict}
use Rattle.formula.specs.declared.Verdict.TheVariants.{Granted, Denied}
use Rattle.formula.specs.declared.Moment.TheVariants.{Add, Join}

-- the first place with an event of a tick; the strip's length where there is none
unfoldable pub place_of : List ℕ → ℕ → ℕ
place_of s t = first (λ i. eqb (tick_of (get_or s i 0)) t) (length s)

-- the words of the evidence
abbrev pub evidence_of : Result Verdict Refusal → List ℕ → List ℕ → List ℕ
evidence_of (Ok (Granted (Add t))) m s = drop (place_of s t) s
evidence_of (Ok (Granted (Join t))) m s = drop (place_of m t) m
evidence_of (Ok (Denied cause)) m s = []
evidence_of (Err refusal) m s = []

-- where it stands
abbrev pub start_of : Result Verdict Refusal → Bor (List ℕ) → Bor (List ℕ) → ℕ × ℕ
start_of (Ok (Granted (Add t))) m s = word_at s (place_of s.now t)
start_of (Ok (Granted (Join t))) m s = word_at m (place_of m.now t)
start_of (Ok (Denied cause)) m s = word_at m 0
start_of (Err refusal) m s = word_at m 0
