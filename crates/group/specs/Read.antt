-- What a model that asks to read a sheet is answered.
use Rattle.std.specs.Prelude.{◌≡◌, Bool, true, false, cond, ℕ, leb, Result, Ok, Err}
use Rattle.rules.specs.Ranges.{models, sheets}
use Rattle.rules.specs.Refusals.{bad_number}
use Rattle.bits.specs.Granted.{granted}
use Rattle.rules.specs.Refusal.{refusal_number}
use Rattle.rules.specs.declared.refusal.Refusal.{Refusal}
use Rattle.group.specs.declared.Group.{Group}

-- a read's answer; a refusal has its number
pub data ReadAnswer : Type 0 where
  Granted : ReadAnswer
  Denied : ReadAnswer
  Refused : ℕ → ReadAnswer

-- what the code answers
abbrev pub read_told : Result Bool Refusal → ReadAnswer
read_told (Ok true) = Granted
read_told (Ok false) = Denied
read_told (Err refusal) = Refused (refusal_number refusal)

-- "2: model or sheet number out of range (model looked at first)", 0 where both are in range
unfoldable pub read_refusal : ℕ → ℕ → ℕ
read_refusal m s = cond (leb models m) bad_number (cond (leb sheets s) bad_number 0)

-- the refusal number of each case, 0 where the read is answered; and what the case says of the grant
abbrev pub read_number : ReadAnswer → ℕ
read_number Granted = 0
read_number Denied = 0
read_number (Refused n) = n

abbrev pub grant_of : ReadAnswer → Bool
grant_of Granted = true
grant_of Denied = false
grant_of (Refused n) = false

-- "A read answers as of the last close; open requests don't show."
unfoldable pub read_answer : Group → ℕ → ℕ → ReadAnswer
read_answer g m s = cond (leb models m) (Refused bad_number) (cond (leb sheets s) (Refused bad_number) (cond (granted g.grants m s) Granted Denied))

-- a read's promise: the case, and with it its number
pub record Reads (g : Group) (m s : ℕ) (r : ReadAnswer) : Type 0 where
  pub answer : r ≡ read_answer g m s
  pub number : read_number r ≡ read_refusal m s
