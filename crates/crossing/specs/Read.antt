-- A read's answer from C.
use Rattle.std.specs.Prelude.{ℕ, Bool, true, false, cond, Result, Ok, Err}
use Rattle.group.specs.Read.{ReadAnswer, Granted, Denied, Refused, read_number, grant_of}
use Rattle.crossing.specs.declared.numbers.Read.{Read}

-- the refusal's number, 0 where the read is answered; 1 for granted, 0 for denied and for refused
abbrev pub read_numbers : ReadAnswer → Read
read_numbers r = record { code = read_number r; granted = cond (grant_of r) 1 0 }

-- an answer whose refusal is told by its number, whatever this is
abbrev pub read_of : Result Bool ℕ → ReadAnswer
read_of (Ok true) = Granted
read_of (Ok false) = Denied
read_of (Err number) = Refused number
