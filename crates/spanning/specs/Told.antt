-- What the judge's verdict at now says of the spans. Which of the two strict events it names, which tick of the last span is the latest moment, and by what,
-- the spans can't tell; `Judged` does.
use Rattle.std.specs.Prelude.{◌≡◌, List, [], ◌∷◌, ◌⊎◌, ℕ, suc, ◌≤◌, Result, Ok, Err}
use Rattle.rules.specs.declared.refusal.Refusal.{Refusal}
use Rattle.formula.specs.Answer.{verdict_value}
use Rattle.formula.specs.declared.Cause.TheVariants.{None, StrictLeave, StrictRemove}
use Rattle.formula.specs.declared.Verdict.{Verdict}
use Rattle.formula.specs.declared.Verdict.TheVariants.{Granted, Denied}
use Rattle.spanning.specs.Spans.{Span}

-- the last of the pairs
unfoldable pub LastIs : List Span → Span → Type 0
LastIs [] q = ⊥
LastIs (p ∷ []) q = p ≡ q
LastIs (p ∷ (r ∷ l)) q = LastIs (r ∷ l) q

-- the last span is open at now, and tick t lies in it
pub record OpenSince (l : List Span) (now t : ℕ) : Type 0 where
  pub span : Span
  pub last : LastIs l span
  pub ends : span.last ≡ now
  pub begins : span.first ≤ t
  pub before : t ≤ now

-- the last span is over by now, and tick e is the one right after it
pub record OverAt (l : List Span) (now e : ℕ) : Type 0 where
  pub span : Span
  pub last : LastIs l span
  pub ends : suc span.last ≡ e
  pub before : e ≤ now

-- "the cause's tick is the tick right after the last span's last tick"
abbrev pub VerdictSays : List Span → ℕ → Result Verdict Refusal → Type 0
VerdictSays l now (Ok (Granted moment)) = OpenSince l now (verdict_value (Ok (Granted moment)))
VerdictSays l now (Ok (Denied None)) = l ≡ []
VerdictSays l now (Ok (Denied (StrictLeave e))) = OverAt l now e
VerdictSays l now (Ok (Denied (StrictRemove e))) = OverAt l now e
VerdictSays l now (Err refusal) = ⊥

-- denied by a strict cause with tick e
abbrev pub StrictAt : Result Verdict Refusal → ℕ → Type 0
StrictAt v e = (v ≡ Ok (Denied (StrictLeave e))) ⊎ (v ≡ Ok (Denied (StrictRemove e)))
