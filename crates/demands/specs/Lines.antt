-- Refusals in their order: the lines of a call, and the first of them that is met.
use Rattle.std.specs.Prelude.{◌≡◌, Bool, true, false, cond, List, [], ◌∷◌, ◌++◌, ℕ, zero, suc, ◌<◌, length, get_or}

-- a refusal's number, and its place where it names one; 0 and 0 where nothing is refused
pub record Refusal : Type 0 where
  pub number : ℕ
  pub place : ℕ

abbrev pub at : ℕ → ℕ → Refusal
at number place = record { number = number; place = place }

abbrev pub plain : ℕ → Refusal
plain number = at number 0

abbrev pub none : Refusal
none = plain 0

-- a line: whether it is met, and what is then refused
pub record Line : Type 0 where
  pub met : Bool
  pub refusal : Refusal

abbrev pub line : Bool → Refusal → Line
line met refusal = record { met = met; refusal = refusal }

-- a line that is never met: what stands past the end of a list
abbrev pub unmet : Line
unmet = line false none

unfoldable pub first_met : List Line → Refusal
first_met [] = none
first_met (l ∷ lines) = cond l.met l.refusal (first_met lines)

-- the lines of 0, of 1, and so on below n
unfoldable pub each_below : (ℕ → List Line) → ℕ → List Line
each_below f zero = []
each_below f (suc n) = each_below f n ++ f n

-- "its line is met and no earlier one is"
pub record Met (lines : List Line) (i : ℕ) : Type 0 where
  pub inside : i < length lines
  pub met : (get_or lines i unmet).met ≡ true
  pub earlier : (j : ℕ) → j < i → (get_or lines j unmet).met ≡ false

-- no line is met
abbrev pub NoneMet : List Line → Type 0
NoneMet lines = (i : ℕ) → i < length lines → (get_or lines i unmet).met ≡ false

-- What demand 1 says of a call with these lines, when it refuses so (`none` where it answers): the refusal is that of the first line met, and it
-- leaves things as `Unchanged` says.
pub record Refuses (lines : List Line) (refusal : Refusal) (Unchanged : Type 0) : Type 0 where
  pub first : refusal ≡ first_met lines
  pub unchanged : (refusal.number ≡ 0 → ⊥) → Unchanged
