-- A call that isn't shared with a model shows it nothing. Assumes nothing.
use mathlib.Core.Path.{◌≡◌, refl}
use mathlib.Core.Bool.{false, true≢false}
use Prim.Native.Nat.{ℕ}
use Rattle.group.specs.View.{view}
use Rattle.group.specs.declared.Group.{Group}
use Rattle.demands.specs.Calls.{Call, request, close, read, count, deliver, Run, next}
use Rattle.demands.specs.Alike.{shared}
use Rattle.demands.specs.Ours.{ours}
use Rattle.demands.proofs.Seen.{other_request}

module _ (m : ℕ) where
  pub unseen : (r : Run Group) (c : Call) → shared m c ≡ false → view m (next ours r c).group ≡ view m r.group
  unfolding shared next
  unseen r (request kind n) f = other_request m r.group kind n f
  unseen r close f = absurd (true≢false f)
  unseen r (read n s) f = refl
  unseen r (count s) f = refl
  unseen r (deliver n store out) f = refl
