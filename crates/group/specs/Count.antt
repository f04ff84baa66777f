-- How many models may read a sheet.
use Rattle.std.specs.Prelude.{cond, ℕ, leb, Result, Ok, Err}
use Rattle.base.specs.HowMany.{how_many}
use Rattle.rules.specs.Ranges.{models, sheets}
use Rattle.rules.specs.Refusals.{bad_number}
use Rattle.rules.specs.Refusal.{refusal_number}
use Rattle.rules.specs.declared.refusal.Refusal.{Refusal}
use Rattle.bits.specs.Granted.{granted}
use Rattle.group.specs.declared.Group.{Group}
use Rattle.group.specs.declared.CountAnswer.{CountAnswer}

-- "how many models may read a sheet"
unfoldable pub models_granted : Group → ℕ → ℕ
models_granted g s = how_many (λ m. granted g.grants m s) models

-- what the code answers, in numbers
abbrev pub count_told : Result ℕ Refusal → CountAnswer
count_told (Ok count) = record { code = 0; count = count }
count_told (Err refusal) = record { code = refusal_number refusal; count = 0 }

-- "read and count of models 2"
unfoldable pub count_answer : Group → ℕ → CountAnswer
count_answer g s = cond (leb sheets s) (record { code = bad_number; count = 0 }) (record { code = 0; count = models_granted g s })
