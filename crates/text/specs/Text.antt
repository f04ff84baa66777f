-- Text added to a buffer.
use Rattle.std.specs.Prelude.{◌≡◌, Bool, cond, List, ℕ, ◌+◌, ltb, length}
use Rattle.text.specs.Digits.{last_digits, IsDigitCount}
use Rattle.wire.specs.Put.{put}

-- there is no room for the text from `at` on
abbrev pub full : List ℕ → ℕ → List ℕ → Bool
full out at text = ltb (length out) (at + length text)

abbrev pub added : List ℕ → ℕ → List ℕ → List ℕ
added out at text = cond (full out at text) out (put out at text)

abbrev pub added_end : List ℕ → ℕ → List ℕ → ℕ
added_end out at text = cond (full out at text) at (at + length text)

-- the decimal digits of n, as few as hold it, were added to `was`
pub record AddsDecimal (was : List ℕ) (at n : ℕ) (now : List ℕ) (end : ℕ) : Type 0 where
  pub places : ℕ
  pub fewest : IsDigitCount n places
  pub buffer : now ≡ added was at (last_digits places n)
  pub behind : end ≡ added_end was at (last_digits places n)
