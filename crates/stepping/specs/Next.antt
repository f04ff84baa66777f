-- The next event of a strip.
use Rattle.std.specs.Prelude.{ℕ, cond, List, ltb, length, get_or}
use Rattle.rules.specs.Kinds.{quiet}
use Rattle.event.specs.Word.{tick_of, kind_of}
use Rattle.stepping.specs.declared.Head.{Head}

-- a tick above any word's
abbrev pub never : ℕ
never = 1048576

-- from place i on; past the end no tick comes
abbrev pub head_of : List ℕ → ℕ → Head
head_of s i = cond (ltb i (length s)) (record { tick = tick_of (get_or s i 0); kind = kind_of (get_or s i 0) }) (record { tick = never; kind = quiet })
