-- The judge's answer where a refusal is told in numbers, whatever these are: its number with its place.
use Rattle.std.specs.Prelude.{ℕ, Result, Ok, Err}
use Rattle.formula.specs.Answer.{verdict_number, verdict_value}
use Rattle.formula.specs.declared.Verdict.{Verdict}

abbrev pub answer_number : Result Verdict (ℕ × ℕ) → ℕ
answer_number (Ok verdict) = verdict_number (Ok verdict)
answer_number (Err refusal) = refusal.0

abbrev pub answer_value : Result Verdict (ℕ × ℕ) → ℕ
answer_value (Ok verdict) = verdict_value (Ok verdict)
answer_value (Err refusal) = refusal.1
