-- The part's length is that of `tick::tick_part`, its start the place that this call promises too.
use mathlib.Core.Path.{ap, ap₂}
use Prim.Native.Nat.{ℕ}
use lib.ListN.{length}
use Rattle.crossing.specs.declared.part.Part.{Part}
use Rattle.crossing.proofs.part.records.Goals as goal

abbrev part : ℕ → ℕ → Part
part first count = record { list = 0; first = first; count = count }

pub returns : goal.returns
returns c = ap₂ part c.start.ensures (ap length c.tick_part-part.ensures.0)
