-- The digits still to write, and then those written, are the digits of n.
use mathlib.Core.Path.{◌≡◌}
use mathlib.Core.List.{◌++◌}
use lib.Seq.{slice}
use Rattle.text.specs.Digits.{last_digits}
use Rattle.text.proofs.write_digits.Given as goal

abbrev pub invariant-loop-i : goal.invariant-loop-i
invariant-loop-i l = last_digits l.i l.rest ++ slice l.i l.k l.out ≡ last_digits l.k l.n
