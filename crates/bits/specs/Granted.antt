-- The grants of a group as it keeps them: a word for each sheet, in it a bit for each model.
use Rattle.std.specs.Prelude.{ℕ, Bool, List}
use Rattle.bits.specs.Bit.{bit_in}

-- "256 words of 64 bits, one word a sheet, one bit a model": model m is granted sheet s
abbrev pub granted : List ℕ → ℕ → ℕ → Bool
granted grants m s = bit_in grants s m
