-- Well-formed events: those that a gate has to accept.
use Rattle.std.specs.Prelude.{cond, List, [], ◌∷◌, ◌++◌, ℕ, ◌+◌, ◌≤◌, ◌<◌}
use Rattle.rules.specs.Kinds.{LR}
use Rattle.rules.specs.Ranges.{ticks}
use Rattle.event.specs.Word.{word_of}
use Rattle.strip.specs.declared.Side.{Side}
use Rattle.strip.specs.declared.Side.TheVariants.{Model, Sheet}
use Rattle.strip.specs.Good.{Good}
use Rattle.event.specs.Carrier.{of_model, carriers}
use Rattle.strip.specs.Strips.{strip_of}

-- whose events a kind's are
abbrev pub side_of : ℕ → Side
side_of kind = cond (of_model kind) Model Sheet

-- an event of the open tick, after t closed ticks and the accepted events ws: a tick is left, kind and number are in range, and the carrier's strip is
-- good with the event at its end
pub record WellFormed (t : ℕ) (ws : List ℕ) (kind number : ℕ) : Type 0 where
  pub tick : t < ticks
  pub known : kind ≤ LR
  pub ranged : number < carriers kind
  pub good : Good (side_of kind) (t + 1) (strip_of (side_of kind) number (t + 1) ws ++ (word_of (t + 1) kind number ∷ []))
