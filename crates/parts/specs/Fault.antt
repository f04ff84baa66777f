-- The first granted sheet for which a delivery is refused. Entries of ungranted sheets are not looked at.
use Rattle.std.specs.Prelude.{ℕ, Bool, not, ◌&&◌, List, eqb}
use Rattle.base.specs.First.{first}
use Rattle.rules.specs.Ranges.{sheets}
use Rattle.bits.specs.Granted.{granted}
use Rattle.store.specs.Entry.{entry_fault}

-- sheet s is granted, and its entry has a fault
unfoldable pub faulty : List ℕ → ℕ → List ℕ → ℕ → Bool
faulty grants m b s = granted grants m s && not (eqb (entry_fault b s) 0)

-- the first such sheet; 256 where there is none
abbrev pub first_faulty : List ℕ → ℕ → List ℕ → ℕ
first_faulty grants m b = first (faulty grants m b) sheets
