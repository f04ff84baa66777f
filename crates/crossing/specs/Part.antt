-- Parts of lent lists from C: "which list, first, count".
use Rattle.std.specs.Prelude.{ℕ, ◌-◌, List, length, Result, Ok, Err}
use Rattle.rules.specs.declared.refusal.Refusal.{Refusal}
use Rattle.formula.specs.declared.Verdict.{Verdict}
use Rattle.formula.specs.declared.Verdict.TheVariants.{Granted, Denied}
use Rattle.formula.specs.declared.Moment.TheVariants.{Add, Join}
use Rattle.evidence.specs.Evidence.{place_of}
use Rattle.tick.specs.Tick.{tick_part, tick_start}
use Rattle.crossing.specs.declared.part.Part.{Part}

-- the model's strip is list 0, the sheet's is list 1
abbrev pub model_strip : ℕ
model_strip = 0

abbrev pub sheet_strip : ℕ
sheet_strip = 1

-- a list from a place to its end
abbrev pub tail_part : ℕ → ℕ → List ℕ → Part
tail_part list first words = record { list = list; first = first; count = length words - first }

-- "from the add record in the sheet's strip, or from the join record in the model's strip, to that strip's end. Denied or refused: the empty part at the start of the model's strip."
abbrev pub evidence_part : Result Verdict Refusal → List ℕ → List ℕ → Part
evidence_part (Ok (Granted (Add t))) m s = tail_part sheet_strip (place_of s t) s
evidence_part (Ok (Granted (Join t))) m s = tail_part model_strip (place_of m t) m
evidence_part (Ok (Denied cause)) m s = record { list = model_strip; first = 0; count = 0 }
evidence_part (Err refusal) m s = record { list = model_strip; first = 0; count = 0 }

-- "The records of one tick are shown as a part of the lent word list": it is list 0, the only one
abbrev pub records_part : List ℕ → ℕ → Part
records_part words tick = record { list = 0; first = tick_start words tick; count = length (tick_part words tick) }
