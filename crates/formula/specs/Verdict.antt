-- What the judge says of a history at tick now.
use Rattle.std.specs.Prelude.{ℕ, zero, suc, cond, ◌&&◌, eqb, ltb}
use Rattle.base.specs.First.{first}
use Rattle.rules.specs.Kinds.{SL}
use Rattle.formula.specs.Formula.{History}
use Rattle.formula.specs.Ticks.{by_add, moment, strict, grant}
use Rattle.formula.specs.declared.Verdict.{Verdict}
use Rattle.formula.specs.declared.Verdict.TheVariants.{Granted, Denied}
use Rattle.formula.specs.declared.Moment.TheVariants.{Add, Join}
use Rattle.formula.specs.declared.Cause.TheVariants.{None, StrictLeave, StrictRemove}

module _ (model sheet : History) where
  -- the latest moment up to now; 0 where there is none
  unfoldable pub latest : ℕ → ℕ
  latest zero = 0
  latest (suc t) = cond (moment model sheet (suc t)) (suc t) (latest t)

  -- the earliest SL or SR after a tick, up to now; now + 1 where there is none
  unfoldable pub earliest : ℕ → ℕ → ℕ
  earliest after now = first (λ k. ltb after k && strict model sheet k) (suc now)

  -- "Where one tick is both, it is named by add."
  unfoldable pub granted_at : ℕ → Verdict
  granted_at t = cond (by_add model sheet t) (Granted (Add t)) (Granted (Join t))

  -- "both in that tick: strict leave. Both strict causes carry the tick of the event that ended the grant"
  unfoldable pub denied : ℕ → Verdict
  denied e = cond (eqb (model e) SL) (Denied (StrictLeave e)) (Denied (StrictRemove e))

  -- "The latest moment is given. Denied has a cause: none (no moment ever), strict leave, or strict remove. The cause is the earliest SL or SR after the latest moment"
  unfoldable pub verdict : ℕ → Verdict
  verdict now =
      cond (grant model sheet now) (granted_at (latest now))
      (cond (eqb (latest now) 0) (Denied None) (denied (earliest (latest now) now)))
