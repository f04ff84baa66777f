-- Who is in as of the last close, and the accepted requests of the open tick: for each kind, the set of the carriers that have an event of it.
use Rattle.std.specs.Prelude.{Bool, false, cond, ◌||◌, ℕ, eqb}
use Rattle.rules.specs.Kinds.{SJ, LJ, SL, LL, SA, LA, SR, LR}
use Rattle.bits.specs.Bit.{bit}
use Rattle.sets.specs.Set.{has}
use Rattle.event.specs.Carrier.{of_model}
use Rattle.group.specs.declared.Group.{Group}

-- carrier i has an accepted event of the kind k in the open tick
abbrev pub mark : Group → ℕ → ℕ → Bool
mark g k i =
    cond (eqb k SJ) (bit g.sj i)
    (cond (eqb k LJ) (bit g.lj i)
    (cond (eqb k SL) (bit g.sl i)
    (cond (eqb k LL) (bit g.ll i)
    (cond (eqb k SA) (has g.sa i)
    (cond (eqb k LA) (has g.la i)
    (cond (eqb k SR) (has g.sr i)
    (cond (eqb k LR) (has g.lr i)
    false)))))))

-- "carrier already has an accepted event in the open tick"
abbrev pub model_marked : Group → ℕ → Bool
model_marked g m = mark g SJ m || mark g LJ m || mark g SL m || mark g LL m

abbrev pub sheet_marked : Group → ℕ → Bool
sheet_marked g s = mark g SA s || mark g LA s || mark g SR s || mark g LR s

abbrev pub carrier_marked : Group → ℕ → ℕ → Bool
carrier_marked g kind n = cond (of_model kind) (model_marked g n) (sheet_marked g n)

-- "A read answers as of the last close; open requests don't show": so do these, by which 5 and 6 are refused
abbrev pub model_in : Group → ℕ → Bool
model_in g m = bit g.members m

abbrev pub sheet_in : Group → ℕ → Bool
sheet_in g s = has g.added s

abbrev pub carrier_in : Group → ℕ → ℕ → Bool
carrier_in g kind n = cond (of_model kind) (model_in g n) (sheet_in g n)

-- the sheet is in, and by LA
abbrev pub sheet_in_by_la : Group → ℕ → Bool
sheet_in_by_la g s = has g.liberal s
