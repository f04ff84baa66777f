-- What the look at the granted sheets finds.
use Rattle.std.specs.Prelude.{ℕ, cond, List, ltb, length, Result, Ok, Err}
use Rattle.rules.specs.Ranges.{sheets}
use Rattle.rules.specs.Refusal.{Told, alone, refusal_number, refusal_place}
use Rattle.store.specs.Entry.{entry_fault}
use Rattle.parts.specs.Granted.{granted_below}
use Rattle.parts.specs.Fault.{first_faulty}
use Rattle.parts.specs.Delivery.{delivery_length}
use Rattle.parts.specs.declared.Sums.{Sums}
use Rattle.look.specs.declared.Fault.{Fault}

-- the first faulty sheet, 256 where there is none; how many granted sheets stand before it; how long their delivery is
pub record Checked : Type 0 where
  pub stop : ℕ
  pub count : ℕ
  pub total : ℕ

-- up to sheet `stop`: how many granted sheets stand before it, and how long their delivery is
abbrev pub checked_to : List ℕ → ℕ → List ℕ → ℕ → Checked
checked_to grants m b stop = record {
  stop = stop;
  count = length (granted_below grants m stop);
  total = delivery_length b (granted_below grants m stop);
}

-- up to the first faulty sheet, or through all of them
abbrev pub checked : List ℕ → ℕ → List ℕ → Checked
checked grants m b = checked_to grants m b (first_faulty grants m b)

-- the refusal of the first faulty sheet, which it is about, or none
abbrev pub found : List ℕ → ℕ → List ℕ → Told
found grants m b =
    cond (ltb (first_faulty grants m b) sheets)
    (record { code = entry_fault b (first_faulty grants m b); place = first_faulty grants m b })
    (alone 0)

-- what the look's answer says of both: the sheet that its refusal is about, with the sums, and the refusal
abbrev pub seen : Result Sums Fault → Checked
seen (Ok sums) = record { stop = sheets; count = sums.count; total = sums.total }
seen (Err fault) = record { stop = refusal_place fault.refusal; count = fault.before.count; total = fault.before.total }

abbrev pub refusal_seen : Result Sums Fault → Told
refusal_seen (Ok sums) = alone 0
refusal_seen (Err fault) = record { code = refusal_number fault.refusal; place = refusal_place fault.refusal }
