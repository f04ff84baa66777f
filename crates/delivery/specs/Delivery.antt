-- A delivery's answer in numbers: its total length; or a refusal's number with its place, the sheet for 32 and 33 and else 0.
use Rattle.std.specs.Prelude.{ℕ, Result, Ok, Err}
use Rattle.rules.specs.declared.refusal.Refusal.{Refusal}
use Rattle.rules.specs.Refusal.{refusal_number, refusal_place}

pub data Delivery : Type 0 where
  Delivered : ℕ → Delivery
  Refused : ℕ → ℕ → Delivery

-- the call's own answer in numbers
abbrev pub delivery_told : Result ℕ Refusal → Delivery
delivery_told (Ok n) = Delivered n
delivery_told (Err refusal) = Refused (refusal_number refusal) (refusal_place refusal)
