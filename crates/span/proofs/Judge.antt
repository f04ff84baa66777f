-- The judge and the spans agree: it says granted at now exactly when the last span ends at now, and then its latest moment lies in that span; none exactly
-- when there is no span; and else a strict cause, whose tick is the tick right after the last span's last tick. Assumes nothing.
use mathlib.Core.Path.{◌≡◌, refl, ap, subst}
use mathlib.Core.Bool.{true, false}
use mathlib.Core.List.{List, []}
use mathlib.Core.Logic.{inl, inr, ⊎_elim}
use Prim.Native.Nat.{ℕ, suc, ◌≤◌, ◌<◌, ◌-◌}
use native.Mathlib.Omega.{arith}
use lib.Dec.{ltb}
use Rattle.std.specs.Prelude.{Result, Ok, Err}
use Rattle.rules.specs.declared.refusal.Refusal.{Refusal}
use borrow.Author.Tests.{ltb-true, ltb-false}
use Rattle.base.proofs.Truth.{either}
use Rattle.formula.specs.Formula.{Grant}
use Rattle.formula.specs.Judged.{Judged, Latest, Earliest, granted_by_add, granted_by_join, none, strict_leave, strict_remove}
use Rattle.formula.specs.declared.Cause.TheVariants.{None, StrictLeave, StrictRemove}
use Rattle.formula.specs.declared.Moment.{Moment}
use Rattle.formula.specs.declared.Verdict.{Verdict}
use Rattle.formula.specs.declared.Verdict.TheVariants.{Granted, Denied}
use Rattle.formula.proofs.Held.{grant_moment, held_since, held_before, ended_from}
use Rattle.strip.specs.History.{history_of}
use Rattle.judge.specs.Judge.{StripsAccepted, judged_by}
use Rattle.judge.proofs.Promise.{judge_means}
use Rattle.spanning.specs.Spans.{Span, Spans}
use Rattle.spanning.specs.Told.{LastIs, OpenSince, OverAt, VerdictSays, StrictAt}
use Rattle.spanning.proofs.Last.{last_after, first_last, not_before, last_up_to, no_pair, one_last}

module _ (m s : List ℕ) (now : ℕ) (a : StripsAccepted m s now) (l : List Span) (x : Spans (history_of m) (history_of s) now l) where
  -- the last span, of a grant that holds at now since the latest moment t
  open_since : (t : ℕ) → Grant (history_of m) (history_of s) now → Latest (history_of m) (history_of s) now t → OpenSince l now t
  open_since t g latest =
      let p = last_up_to now now 0 l x.apart ((x.exactly now (omega (arith, latest.from, latest.upto)) (omega arith)).1 g) (λ k h b y. absurd (omega arith)) in
      let q = p.0 in
      record {
        span = q;
        last = p.1;
        ends = p.2;
        begins = ⊎_elim
            (λ (y : ltb t q.first ≡ true).
            let u : ℕ = q.first - 1 in
            let h : t < q.first = ltb-true t q.first y in
            let after = last_after now 0 l q x.apart p.1 in
            let below : q.first ≤ now = omega (arith, first_last now 0 l q x.apart p.1, p.2) in
            absurd (not_before now 0 l q u x.apart p.1 (omega arith)
            ((x.exactly u (omega (arith, latest.from)) (omega arith)).1 (held_since (history_of m) (history_of s) now t latest g u (omega arith) (omega arith)))))
            (λ (n : ltb t q.first ≡ false). ltb-false t q.first n)
            (either (ltb t q.first));
        before = latest.upto;
      }

  -- the last span, of a grant that the strict event of tick e ended
  over_at : (t e : ℕ) → Latest (history_of m) (history_of s) now t → Earliest (history_of m) (history_of s) t now e → OverAt l now e
  over_at t e latest earliest =
      let u : ℕ = e - 1 in
      let begun = latest.from in
      let after = earliest.from in
      let before : u < now = omega (arith, earliest.upto) in
      let p = last_up_to now u 0 l x.apart
      ((x.exactly u (omega arith) (omega arith)).1 (held_before (history_of m) (history_of s) now t latest e earliest u (omega arith) (omega arith)))
      (λ k h b y. ended_from (history_of m) (history_of s) now t latest e earliest k (omega arith) b ((x.exactly k (omega arith) b).0 y)) in
      record { span = p.0; last = p.1; ends = omega (arith, p.2); before = earliest.upto }

  told : (v : Result Verdict Refusal) → Judged (history_of m) (history_of s) now v → VerdictSays l now v
  told v (granted_by_add t g r b) = open_since t g r
  told v (granted_by_join t g r b) = open_since t g r
  told v (none h) = no_pair now 0 l x.apart (λ t from upto y. grant_moment (history_of m) (history_of s) t ((x.exactly t from upto).0 y) (λ i c d. h i c (omega arith)))
  told v (strict_leave t e g r z b) = over_at t e r z
  told v (strict_remove t e g r z b) = over_at t e r z

  pub judge_says : VerdictSays l now (judged_by m s now)
  judge_says = told (judged_by m s now) (judge_means m s now a)

  -- and the other way: a last span that ends at now is told by a grant; one that is over by then, by a strict cause with the tick right after it; no span, by none
  same_end : (p q : Span) → LastIs l p → LastIs l q → p.last ≡ q.last
  same_end p q x y = ap (λ (r : Span). r.last) (one_last l p q x y)

  no_last : (q : Span) → l ≡ [] → LastIs l q → ⊥
  unfolding LastIs
  no_last q e x = subst (λ (k : List Span). LastIs k q) e x

  still_open : (v : Result Verdict Refusal) → VerdictSays l now v → (q : Span) → LastIs l q → q.last ≡ now → (y : Moment) × (v ≡ Ok (Granted y))
  still_open (Ok (Granted y)) o q last e = (y, refl)
  still_open (Ok (Denied None)) o q last e = absurd (no_last q o last)
  still_open (Ok (Denied (StrictLeave t))) o q last e = absurd (omega (arith, o.before, o.ends, e, same_end o.span q o.last last))
  still_open (Ok (Denied (StrictRemove t))) o q last e = absurd (omega (arith, o.before, o.ends, e, same_end o.span q o.last last))
  still_open (Err refusal) o q last e = absurd o

  pub open_granted : (q : Span) → LastIs l q → q.last ≡ now → (y : Moment) × (judged_by m s now ≡ Ok (Granted y))
  open_granted = still_open (judged_by m s now) judge_says

  over : (v : Result Verdict Refusal) → VerdictSays l now v → (q : Span) → LastIs l q → q.last < now → StrictAt v (suc q.last)
  over (Ok (Granted y)) o q last b = absurd (omega (arith, o.ends, same_end o.span q o.last last))
  over (Ok (Denied None)) o q last b = absurd (no_last q o last)
  over (Ok (Denied (StrictLeave t))) o q last b = inl (ap (λ (k : ℕ). Ok (Denied (StrictLeave k))) (omega (arith, o.ends, same_end o.span q o.last last)))
  over (Ok (Denied (StrictRemove t))) o q last b = inr (ap (λ (k : ℕ). Ok (Denied (StrictRemove k))) (omega (arith, o.ends, same_end o.span q o.last last)))
  over (Err refusal) o q last b = absurd o

  pub over_denied : (q : Span) → LastIs l q → q.last < now → StrictAt (judged_by m s now) (suc q.last)
  over_denied = over (judged_by m s now) judge_says

  spanless : (v : Result Verdict Refusal) → VerdictSays l now v → l ≡ [] → v ≡ Ok (Denied None)
  spanless (Ok (Granted y)) o e = absurd (no_last o.span e o.last)
  spanless (Ok (Denied None)) o e = refl
  spanless (Ok (Denied (StrictLeave t))) o e = absurd (no_last o.span e o.last)
  spanless (Ok (Denied (StrictRemove t))) o e = absurd (no_last o.span e o.last)
  spanless (Err refusal) o e = absurd o

  pub spanless_none : l ≡ [] → judged_by m s now ≡ Ok (Denied None)
  spanless_none = spanless (judged_by m s now) judge_says
