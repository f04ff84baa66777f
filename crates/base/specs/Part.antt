-- A part of a lent list of words: where it stands.
use Rattle.std.specs.Prelude.{List, ℕ, ◌+◌, ◌*◌}
use Rattle.std.specs.Borrow.{Bor}

-- the address (block and byte) of word i of a list
abbrev pub word_at : Bor (List ℕ) → ℕ → ℕ × ℕ
word_at s i = (s.ref_ptr.0, i * 4 + s.ref_ptr.1)
