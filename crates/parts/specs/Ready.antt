-- What the check leaves to the writing: nothing is refused any more but for room.
use Rattle.std.specs.Prelude.{◌≡◌, true, List, ℕ, ◌<◌}
use Rattle.rules.specs.Ranges.{models, sheets}
use Rattle.store.specs.Store.{good_store}
use Rattle.parts.specs.Fault.{first_faulty}

pub record Ready (grants : List ℕ) (m : ℕ) (b : List ℕ) : Type 0 where
  pub known : m < models
  pub taken : good_store b ≡ true
  pub sound : first_faulty grants m b ≡ sheets
