-- The kinds of an event: S strict, L liberal; J join, L leave, A add, R remove.
use Rattle.std.specs.Prelude.{ℕ, Bool, ◌||◌, eqb}

abbrev pub SJ : ℕ
SJ = 0

abbrev pub LJ : ℕ
LJ = 1

abbrev pub SL : ℕ
SL = 2

abbrev pub LL : ℕ
LL = 3

abbrev pub SA : ℕ
SA = 4

abbrev pub LA : ℕ
LA = 5

abbrev pub SR : ℕ
SR = 6

abbrev pub LR : ℕ
LR = 7

-- a carrier's kind in a tick without an event of its own
abbrev pub quiet : ℕ
quiet = 8

-- of either kind
abbrev pub is_join : ℕ → Bool
is_join k = eqb k SJ || eqb k LJ

abbrev pub is_leave : ℕ → Bool
is_leave k = eqb k SL || eqb k LL

abbrev pub is_add : ℕ → Bool
is_add k = eqb k SA || eqb k LA

abbrev pub is_remove : ℕ → Bool
is_remove k = eqb k SR || eqb k LR
