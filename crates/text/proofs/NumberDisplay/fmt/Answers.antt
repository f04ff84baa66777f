-- The bytes that `add_decimal` leaves are text: the buffer has room for any number, and digits are ASCII.
use native.Mathlib.Omega.{arith}
use Rattle.text.proofs.Printed.{number_text}
use Rattle.text.proofs.NumberDisplay.fmt.Goals as goal

pub from_utf8_unchecked-requires : goal.from_utf8_unchecked-requires
from_utf8_unchecked-requires g c = number_text _ _ _ _ (omega arith) (omega arith) c.add_decimal-end.ensures
