-- How large a set of sheets is.
use Rattle.std.specs.Prelude.{ℕ}

-- a set of sheets takes this many words
abbrev pub sheet_words : ℕ
sheet_words = 4
