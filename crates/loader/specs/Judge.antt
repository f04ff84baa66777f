-- The judge from C: "It hands each strip over as bytes, four a word, little-endian. It gets code × 2^32 + value."
use Rattle.std.specs.Prelude.{ℕ, ◌+◌, ◌*◌, ◌%◌, ◌^◌, Bool, cond, not, ◌&&◌, List, eqb, ltb, leb, length, Result, Err}
use Rattle.rules.specs.Ranges.{ticks, events}
use Rattle.rules.specs.declared.refusal.Refusal.{Refusal}
use Rattle.rules.specs.declared.refusal.Refusal.TheVariants.{LateNow, LongModel, LongSheet}
use Rattle.wire.specs.Words.{words_in}
use Rattle.formula.specs.declared.Verdict.{Verdict}
use Rattle.formula.specs.Answer.{verdict_number, verdict_value}
use Rattle.formula.specs.Numbers.{answer_number, answer_value}
use Rattle.judge.specs.Judge.{judged_by}

abbrev pub packed : Result Verdict Refusal → ℕ
packed answer = verdict_number answer * 2 ^ 32 + verdict_value answer

-- the same where a refusal is told in numbers, whatever these are
abbrev pub packed_answer : Result Verdict (ℕ × ℕ) → ℕ
packed_answer answer = answer_number answer * 2 ^ 32 + answer_value answer

-- "longer than 4,096 words, or from C not whole words" fails this, by the number of bytes
abbrev pub whole_strip : ℕ → Bool
whole_strip n = eqb (n % 4) 0 && leb n (4 * events)

-- 10, 11 and 12, then as the judge on the words
abbrev pub judged_from : List ℕ → List ℕ → ℕ → Result Verdict Refusal
judged_from m s now =
    cond (ltb ticks now) (Err LateNow)
    (cond (not (whole_strip (length m))) (Err LongModel)
    (cond (not (whole_strip (length s))) (Err LongSheet)
    (judged_by (words_in m) (words_in s) now)))
