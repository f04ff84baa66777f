-- What a verdict means, as a statement about the formula; a refusal means nothing. proofs/Judged.antt shows that `verdict` of Verdict.antt meets it, and nothing else does.
use Rattle.std.specs.Prelude.{ℕ, ◌≤◌, ◌<◌, Result, Ok}
use Rattle.rules.specs.declared.refusal.Refusal.{Refusal}
use Rattle.formula.specs.Formula.{History, SL, ByAdd, Moment, Strict, Grant}
use Rattle.formula.specs.declared.Verdict.{Verdict}
use Rattle.formula.specs.declared.Verdict.TheVariants.{Granted, Denied}
use Rattle.formula.specs.declared.Moment.TheVariants.{Add, Join}
use Rattle.formula.specs.declared.Cause.TheVariants.{None, StrictLeave, StrictRemove}

-- t is the latest moment up to now
pub record Latest (model sheet : History) (now t : ℕ) : Type 0 where
  pub from : 1 ≤ t
  pub upto : t ≤ now
  pub there : Moment model sheet t
  pub later : (k : ℕ) → t < k → k ≤ now → ¬ Moment model sheet k

-- e is the earliest SL or SR after tick t, up to now
pub record Earliest (model sheet : History) (t now e : ℕ) : Type 0 where
  pub from : t < e
  pub upto : e ≤ now
  pub there : Strict model sheet e
  pub earlier : (k : ℕ) → t < k → k < e → ¬ Strict model sheet k

pub data Judged (model sheet : History) (now : ℕ) : Result Verdict Refusal → Type 0 where
  -- granted: the formula holds, and the latest moment is given, by add where it is by add
  granted_by_add : (t : ℕ) → Grant model sheet now → Latest model sheet now t → ByAdd model sheet t → Judged model sheet now (Ok (Granted (Add t)))
  granted_by_join : (t : ℕ) → Grant model sheet now → Latest model sheet now t → ¬ ByAdd model sheet t → Judged model sheet now (Ok (Granted (Join t)))
  -- denied: no moment ever, or the earliest strict event after the latest moment with its tick, SL looked at first
  none : ((t : ℕ) → 1 ≤ t → t ≤ now → ¬ Moment model sheet t) → Judged model sheet now (Ok (Denied None))
  strict_leave : (t e : ℕ) → ¬ Grant model sheet now → Latest model sheet now t → Earliest model sheet t now e → SL model sheet e
      → Judged model sheet now (Ok (Denied (StrictLeave e)))
  strict_remove : (t e : ℕ) → ¬ Grant model sheet now → Latest model sheet now t → Earliest model sheet t now e → ¬ SL model sheet e
      → Judged model sheet now (Ok (Denied (StrictRemove e)))
