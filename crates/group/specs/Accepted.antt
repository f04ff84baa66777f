-- What an accepted request is: none of the refusals' lines is met.
use Rattle.std.specs.Prelude.{◌≡◌, false, not, ℕ, ◌<◌, ◌≤◌}
use Rattle.rules.specs.Kinds.{LR}
use Rattle.rules.specs.Ranges.{ticks}
use Rattle.event.specs.Carrier.{carriers, entering}
use Rattle.group.specs.Marks.{carrier_marked, carrier_in}
use Rattle.group.specs.declared.Group.{Group}

pub record RequestAccepted (g : Group) (kind n : ℕ) : Type 0 where
  -- a kind and a number in range, and a tick left
  pub known : kind ≤ LR
  pub ranged : n < carriers kind
  pub tick : g.closed < ticks
  -- "a model or sheet has at most one event a tick in a group"
  pub first : carrier_marked g kind n ≡ false
  -- "joins and leaves of a model alternate, starting with a join; so do adds and removes of a sheet"
  pub alternates : carrier_in g kind n ≡ not (entering kind)
