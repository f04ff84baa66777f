-- A delivery's answer from C.
use Rattle.std.specs.Prelude.{ℕ, Result, Ok, Err}
use Rattle.delivery.specs.Delivery.{Delivery, Delivered, Refused}
use Rattle.delivery.specs.Answer.{delivery_number, delivery_place, delivered_length}
use Rattle.crossing.specs.declared.numbers.Delivered as C

-- "Its answer is that total length"; "32 and 33 name the sheet", a refusal without a place has 0
abbrev pub delivery_numbers : Delivery → C.Delivered
delivery_numbers d = record { code = delivery_number d; place = delivery_place d; length = delivered_length d }

-- an answer whose refusal is told in numbers, whatever these are: its number with its place
abbrev pub delivery_of : Result ℕ (ℕ × ℕ) → Delivery
delivery_of (Ok n) = Delivered n
delivery_of (Err refusal) = Refused refusal.0 refusal.1
