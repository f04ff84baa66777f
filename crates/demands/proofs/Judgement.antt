-- The judge's answer in numbers says what the call's own answer says. Assumes nothing.
use mathlib.Core.Path.{◌≡◌, refl, ap}
use mathlib.Core.Bool.{true≢false}
use mathlib.Core.Logic.{◌↔◌}
use Prim.Native.Nat.{ℕ}
use Rattle.std.specs.Prelude.{Result, Ok, Err}
use Rattle.rules.specs.declared.refusal.Refusal.{Refusal}
use Rattle.formula.specs.Formula.{History}
use Rattle.formula.specs.Judged.{Judged, granted_by_add, granted_by_join, none, strict_leave, strict_remove}
use Rattle.formula.specs.declared.Moment.{Moment}
use Rattle.formula.specs.declared.Moment.TheVariants.{Add, Join}
use Rattle.formula.specs.declared.Cause.TheVariants.{None, StrictLeave, StrictRemove}
use Rattle.formula.specs.declared.Verdict.{Verdict}
use Rattle.formula.specs.declared.Verdict.TheVariants.{Granted, Denied}
use Rattle.demands.specs.Judgement.{Said, judgement_told}

-- a verdict is told of a verdict only
told_verdict : (a : Result Verdict Refusal) (v : Verdict) → judgement_told a ≡ Said v → a ≡ Ok v
told_verdict (Ok w) v e = ap Ok (cc e)
told_verdict (Err refusal) v e = absurd (true≢false (cc e))

-- granted is told of granted, whatever that comes to
pub said_granted : {a : Result Verdict Refusal} {P : Type 0} → ((x : Moment) × (a ≡ Ok (Granted x))) ↔ P → ((x : Moment) × (judgement_told a ≡ Said (Granted x))) ↔ P
said_granted {a} g = (λ y. g.0 (y.0, told_verdict a (Granted y.0) y.1), λ p. let x = g.1 p in (x.0, ap judgement_told x.1))

-- what is Judged is a verdict
pub said_judged : {model sheet : History} {now : ℕ} {a : Result Verdict Refusal} → Judged model sheet now a
    → (v : Verdict) × (judgement_told a ≡ Said v) × Judged model sheet now (Ok v)
said_judged (granted_by_add t g l b) = (Granted (Add t), refl, granted_by_add t g l b)
said_judged (granted_by_join t g l b) = (Granted (Join t), refl, granted_by_join t g l b)
said_judged (none h) = (Denied None, refl, none h)
said_judged (strict_leave t e g l r b) = (Denied (StrictLeave e), refl, strict_leave t e g l r b)
said_judged (strict_remove t e g l r b) = (Denied (StrictRemove e), refl, strict_remove t e g l r b)
