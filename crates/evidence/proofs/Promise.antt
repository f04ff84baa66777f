-- What the evidence's promise says in the formula's words. Assumes nothing.
use mathlib.Core.Path.{◌≡◌, sym, ◌∙◌}
use mathlib.Core.Bool.{true≢false}
use mathlib.Core.Logic.{◌⊎◌, inl, inr, ⊎_elim}
use mathlib.Core.List.{List}
use Prim.Native.Nat.{ℕ, ◌<◌}
use Rattle.std.specs.Prelude.{Result, Ok}
use Rattle.rules.specs.declared.refusal.Refusal.{Refusal}
use native.Mathlib.Omega.{arith}
use lib.Dec.{eqb}
use lib.ListN.{length, get_or}
use denote.Ref.{Bor}
use borrow.Author.Tests.{eq-eqb, ne_eqb}
use Rattle.base.proofs.First.{first_is}
use Rattle.rules.specs.Kinds.{quiet, SA, LA, LJ}
use Rattle.event.specs.Word.{kind_of}
use Rattle.formula.specs.Formula.{ByAdd, ByJoin}
use Rattle.formula.specs.Judged.{Judged, granted_by_add, granted_by_join, none, strict_leave, strict_remove}
use Rattle.formula.specs.declared.Verdict.{Verdict}
use Rattle.formula.specs.declared.Verdict.TheVariants.{Granted}
use Rattle.formula.specs.declared.Moment.TheVariants.{Add, Join}
use Rattle.strip.specs.declared.Side.TheVariants.{Model, Sheet}
use Rattle.strip.specs.History.{history_of}
use Rattle.strip.proofs.Places.{tick_at, Rising, good_rising, history_means}
use Rattle.judge.specs.Judge.{StripsAccepted, judged_by}
use Rattle.judge.proofs.Promise.{judge_means}
use Rattle.evidence.specs.Evidence.{place_of, evidence_of, start_of}

-- where an event of tick t stands in a strip whose ticks rise
pub record Record (s : List ℕ) (k t : ℕ) : Type 0 where
  pub inside : place_of s t < length s
  pub tick : tick_at s (place_of s t) ≡ t
  pub kind : kind_of (get_or s (place_of s t) 0) ≡ k

located : (s : List ℕ) → Rising s → (k t : ℕ) → (k ≡ quiet → ⊥) → history_of s t ≡ k → Record s k t
unfolding place_of
located s r k t n e =
    let v = (history_means s r k t n).0 e in
    let at = first_is (λ i. eqb (tick_at s i) t) (length s) v.place v.inside
    (λ j h. ne_eqb (tick_at s j) t (λ q. omega (arith, r.up j v.place h v.inside, v.tick))) (eq-eqb _ _ v.tick) in
    record { inside = rw at v.inside; tick = rw at v.tick; kind = rw at v.kind }

module _ (m s : List ℕ) (now : ℕ) (a : StripsAccepted m s now) (t : ℕ) where
  moment_add : (v : Result Verdict Refusal) → Judged (history_of m) (history_of s) now v → v ≡ Ok (Granted (Add t)) → ByAdd (history_of m) (history_of s) t
  moment_add v (granted_by_add u g l b) e = let q : u ≡ t = cc e in rw (← q) b
  moment_add v (granted_by_join u g l b) e = absurd (true≢false (cc e))
  moment_add v (none h) e = absurd (true≢false (cc e))
  moment_add v (strict_leave u w g l r b) e = absurd (true≢false (cc e))
  moment_add v (strict_remove u w g l r b) e = absurd (true≢false (cc e))

  moment_join : (v : Result Verdict Refusal) → Judged (history_of m) (history_of s) now v → v ≡ Ok (Granted (Join t)) → ByJoin (history_of m) (history_of s) t
  moment_join v (granted_by_join u g l b) e = let q : u ≡ t = cc e in rw (← q) (⊎_elim (λ x. absurd (b x)) (λ y. y) l.there)
  moment_join v (granted_by_add u g l b) e = absurd (true≢false (cc e))
  moment_join v (none h) e = absurd (true≢false (cc e))
  moment_join v (strict_leave u w g l r b) e = absurd (true≢false (cc e))
  moment_join v (strict_remove u w g l r b) e = absurd (true≢false (cc e))

  -- the evidence by add starts with the sheet's add record of the moment's tick
  pub evidence_add : judged_by m s now ≡ Ok (Granted (Add t)) → Record s SA t ⊎ Record s LA t
  evidence_add e =
      let r = good_rising Sheet now s a.good_s in
      ⊎_elim
      (λ x. inl (located s r SA t (λ q. omega arith) x))
      (λ y. inr (located s r LA t (λ q. omega arith) y))
      (moment_add (judged_by m s now) (judge_means m s now a) e).0

  -- the evidence by join starts with the model's liberal join
  pub evidence_join : judged_by m s now ≡ Ok (Granted (Join t)) → Record m LJ t
  evidence_join e = located m (good_rising Model now m a.good_m) LJ t (λ q. omega arith) (moment_join (judged_by m s now) (judge_means m s now a) e).0

-- two parts that meet the evidence's promise hold the same words at the same place
abbrev pub Meets : Bor (List ℕ) → Bor (List ℕ) → ℕ → Bor (List ℕ) → Type 0
Meets m s now r =
    (r.now ≡ evidence_of (judged_by m.now s.now now) m.now s.now) × (r.ref_ptr ≡ start_of (judged_by m.now s.now now) m s)

pub one_evidence : (m s : Bor (List ℕ)) (now : ℕ) (r t : Bor (List ℕ)) → Meets m s now r → Meets m s now t → (r.now ≡ t.now) × (r.ref_ptr ≡ t.ref_ptr)
one_evidence m s now r t p q = (p.0 ∙ sym q.0, p.1 ∙ sym q.1)
