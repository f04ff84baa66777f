-- What the judge's promise says in the formula's words. Assumes nothing.
use mathlib.Core.Path.{◌≡◌, refl, sym, ◌∙◌}
use mathlib.Core.Bool.{true≢false}
use mathlib.Core.Logic.{◌↔◌}
use mathlib.Core.List.{List}
use Prim.Native.Nat.{ℕ}
use Rattle.std.specs.Prelude.{Result, Ok, Err}
use Rattle.rules.specs.declared.refusal.Refusal.{Refusal}
use Rattle.formula.specs.Formula.{Grant}
use Rattle.formula.specs.Verdict.{verdict}
use Rattle.formula.specs.Judged.{Judged, granted_by_add, granted_by_join, none, strict_leave, strict_remove}
use Rattle.formula.specs.declared.Verdict.{Verdict}
use Rattle.formula.specs.declared.Cause.{Cause}
use Rattle.formula.specs.declared.Verdict.TheVariants.{Granted, Denied}
use Rattle.formula.specs.declared.Moment.{Moment}
use Rattle.formula.specs.declared.Moment.TheVariants.{Add, Join}
use Rattle.formula.proofs.Held.{grant_moment}
use Rattle.formula.proofs.Judged.{judged}
use Rattle.strip.specs.History.{history_of}
use Rattle.judge.specs.Judge.{StripsAccepted, judged_by}
use Rattle.judge.proofs.Checked.{checks, check_passes}

module _ (m s : List ℕ) (now : ℕ) (a : StripsAccepted m s now) where
  judges : judged_by m s now ≡ Ok (verdict (history_of m) (history_of s) now)
  judges = checks m s now Err (Ok (verdict (history_of m) (history_of s) now)) a

  -- the answer to accepted strips is what the formula means: granted or denied, the latest moment, the cause with its tick
  pub judge_means : Judged (history_of m) (history_of s) now (judged_by m s now)
  judge_means = rw judges (judged (history_of m) (history_of s) now)

  -- granted exactly when the formula holds at now
  abbrev Grants : Result Verdict Refusal → Type 0
  Grants v = (x : Moment) × (v ≡ Ok (Granted x))

  only : (v : Result Verdict Refusal) → Judged (history_of m) (history_of s) now v → Grants v ↔ Grant (history_of m) (history_of s) now
  only v (granted_by_add t g l b) = (λ x. g, λ x. (Add t, refl))
  only v (granted_by_join t g l b) = (λ x. g, λ x. (Join t, refl))
  only v (none h) = (
    λ x. absurd (true≢false (cc x.1)),
    λ g. absurd (grant_moment (history_of m) (history_of s) now g h),
  )
  only v (strict_leave t e g l r b) = (λ x. absurd (true≢false (cc x.1)), λ y. absurd (g y))
  only v (strict_remove t e g l r b) = (λ x. absurd (true≢false (cc x.1)), λ y. absurd (g y))

  pub judge_grants : Grants (judged_by m s now) ↔ Grant (history_of m) (history_of s) now
  judge_grants = only (judged_by m s now) judge_means

-- strips that the judge denies are accepted
pub denied_taken : (m s : List ℕ) (now : ℕ) (c : Cause) → judged_by m s now ≡ Ok (Denied c) → StripsAccepted m s now
denied_taken m s now c d = check_passes m s now Err (Ok (verdict (history_of m) (history_of s) now)) (λ r e. absurd (true≢false (cc (sym e ∙ d))))

-- two verdicts that meet the judge's promise are one
pub one_verdict : (m s : List ℕ) (now : ℕ) (v w : Result Verdict Refusal) → v ≡ judged_by m s now → w ≡ judged_by m s now → v ≡ w
one_verdict m s now v w p q = p ∙ sym q
