-- What is asked of two strips and now before a call answers, in the order of its refusals; and the judge's answer.
use Rattle.std.specs.Prelude.{◌≡◌, ℕ, ◌≤◌, cond, List, ltb, length, Result, Ok, Err}
use Rattle.rules.specs.Ranges.{ticks, events}
use Rattle.rules.specs.Refusal.{refusal_number, refusal_place}
use Rattle.rules.specs.declared.refusal.Refusal.{Refusal}
use Rattle.rules.specs.declared.refusal.Refusal.TheVariants.{LateNow, LongModel, LongSheet, BadModel, BadSheet}
use Rattle.formula.specs.declared.Verdict.{Verdict}
use Rattle.formula.specs.Answer.{verdict_number, verdict_value}
use Rattle.formula.specs.Verdict.{verdict}
use Rattle.strip.specs.declared.Side.TheVariants.{Model, Sheet}
use Rattle.strip.specs.Good.{Good, first_bad}
use Rattle.strip.specs.History.{history_of}

-- 10 to 14, each exactly when its line is met and no earlier one is, by what a call makes of a refusal; else what it answers
abbrev pub checked : {A : Type 0} → List ℕ → List ℕ → ℕ → (Refusal → A) → A → A
checked m s now refuse answer =
    cond (ltb ticks now) (refuse LateNow)
    (cond (ltb events (length m)) (refuse LongModel)
    (cond (ltb events (length s)) (refuse LongSheet)
    (cond (ltb (first_bad Model now m) (length m)) (refuse (BadModel (first_bad Model now m)))
    (cond (ltb (first_bad Sheet now s) (length s)) (refuse (BadSheet (first_bad Sheet now s)))
    answer))))

-- no refusal applies
pub record StripsAccepted (m s : List ℕ) (now : ℕ) : Type 0 where
  pub tick : now ≤ ticks
  pub short_m : length m ≤ events
  pub short_s : length s ≤ events
  pub good_m : Good Model now m
  pub good_s : Good Sheet now s

-- the judge: the verdict of the two histories at now
abbrev pub judged_by : List ℕ → List ℕ → ℕ → Result Verdict Refusal
judged_by m s now = checked m s now Err (Ok (verdict (history_of m) (history_of s) now))

-- the judge's promise: the case, and with it its number and value; of a refusal they are the refusal's number and its place
pub record Judges (m s : List ℕ) (now : ℕ) (r : Result Verdict Refusal) : Type 0 where
  pub answer : r ≡ judged_by m s now
  pub number : verdict_number r ≡ checked m s now refusal_number (verdict_number (Ok (verdict (history_of m) (history_of s) now)))
  pub value : verdict_value r ≡ checked m s now refusal_place (verdict_value (Ok (verdict (history_of m) (history_of s) now)))
