-- A judge's answer in numbers: its verdict; or a refusal's number with its place, the first bad one for 13 and 14 and else 0.
use Rattle.std.specs.Prelude.{ℕ, ◌+◌, ◌*◌, ◌^◌, Result, Ok, Err}
use Rattle.rules.specs.Refusal.{refusal_number, refusal_place}
use Rattle.rules.specs.declared.refusal.Refusal.{Refusal}
use Rattle.formula.specs.declared.Verdict.{Verdict}
use Rattle.loader.specs.Judge.{packed}

pub data Judgement : Type 0 where
  Said : Verdict → Judgement
  Refused : ℕ → ℕ → Judgement

-- the call's own answer in numbers
abbrev pub judgement_told : Result Verdict Refusal → Judgement
judgement_told (Ok verdict) = Said verdict
judgement_told (Err refusal) = Refused (refusal_number refusal) (refusal_place refusal)

-- as it goes to C
abbrev pub packed_judgement : Judgement → ℕ
packed_judgement (Said verdict) = packed (Ok verdict)
packed_judgement (Refused number place) = number * 2 ^ 32 + place
