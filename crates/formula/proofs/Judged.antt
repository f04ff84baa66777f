-- `verdict` is what the formula means: it is Judged, and whatever is Judged is it. Assumes nothing.
use mathlib.Core.Path.{◌≡◌, refl, sym, ap, ◌∙◌}
use mathlib.Core.Bool.{Bool, true, false, cond, ◌&&◌}
use mathlib.Core.Logic.{◌⊎◌, inl, inr, ⊎_elim}
use Prim.Native.Nat.{ℕ, zero, suc, ◌≤◌, ◌<◌}
use native.Mathlib.Omega.{arith}
use native.Mathlib.Nat.{eq-or-lt_of_le}
use lib.Dec.{eqb, ltb}
use Rattle.std.specs.Prelude.{Result, Ok}
use Rattle.rules.specs.declared.refusal.Refusal.{Refusal}
use borrow.Author.Tests.{lt-ltb, ltb-true, ltb-false, ne_eqb, eq-eqb, eqb-true, eqb-false}
use Rattle.base.proofs.First.{first_is, first_before, first_there}
use Rattle.base.proofs.Truth.{either, both}
use Rattle.rules.specs.Kinds as kinds
use Rattle.formula.specs.declared.Verdict.{Verdict}
use Rattle.formula.specs.declared.Verdict.TheVariants.{Granted, Denied}
use Rattle.formula.specs.declared.Moment.TheVariants.{Add, Join}
use Rattle.formula.specs.declared.Cause.TheVariants.{None, StrictLeave, StrictRemove}
use Rattle.formula.specs.Formula.{History, Moment, Strict, Grant}
use Rattle.formula.specs.Ticks.{by_add, moment, strict, grant}
use Rattle.formula.specs.Verdict.{latest, earliest, granted_at, denied, verdict}
use Rattle.formula.specs.Judged.{Latest, Earliest, Judged, granted_by_add, granted_by_join, none, strict_leave, strict_remove}
use Rattle.formula.proofs.Says.{Says, says_not}
use Rattle.formula.proofs.Held.{grant_moment, kept}
use Rattle.formula.proofs.Meaning.{means_add, means_moment, means_strict, means_grant}

-- a statement that fails has a false test
unsaid : {b : Bool} {P : Type 0} → Says b P → (¬ P) → b ≡ false
unsaid {b} s h = ⊎_elim (λ t. absurd (h (s.0 t))) (λ f. f) (either b)

module _ (model sheet : History) where
  latest_here : (t : ℕ) → moment model sheet (suc t) ≡ true → latest model sheet (suc t) ≡ suc t
  unfolding latest
  latest_here t e = simp e

  latest_before : (t : ℕ) → moment model sheet (suc t) ≡ false → latest model sheet (suc t) ≡ latest model sheet t
  unfolding latest
  latest_before t e = simp e

  -- the latest moment is the one that `latest` finds
  latest_is : (now t : ℕ) → Latest model sheet now t → latest model sheet now ≡ t
  latest_is zero t l = absurd (omega arith)
  latest_is (suc n) t l = ⊎_elim
      (λ e. latest_here n ((means_moment model sheet (suc n)).1 (rw (← e) l.there)) ∙ sym e)
      (λ h.
      latest_before n (unsaid (means_moment model sheet (suc n)) (l.later (suc n) h (omega arith)))
      ∙ latest_is n t (record { from = l.from; upto = omega arith; there = l.there; later = λ k a b. l.later k a (omega arith) }))
      (eq-or-lt_of_le l.upto)

  -- it finds 0 exactly where there is no moment
  latest_none : (now : ℕ) → ((t : ℕ) → 1 ≤ t → t ≤ now → ¬ Moment model sheet t) → latest model sheet now ≡ 0
  unfolding latest
  latest_none zero h = refl
  latest_none (suc n) h =
      latest_before n (unsaid (means_moment model sheet (suc n)) (h (suc n) (omega arith) (omega arith)))
      ∙ latest_none n (λ t a b. h t a (omega arith))

  abbrev Nowhere : ℕ → Type 0
  Nowhere now = (t : ℕ) → 1 ≤ t → t ≤ now → ¬ Moment model sheet t

  abbrev Somewhere : ℕ → Type 0
  Somewhere now = (t : ℕ) × Latest model sheet now t

  latest_or : (now : ℕ) → Nowhere now ⊎ Somewhere now
  latest_or zero = inl (λ t a b. absurd (omega arith))
  latest_or (suc n) = ⊎_elim
      (λ y. inr (suc n, record { from = omega arith; upto = omega arith; there = (means_moment model sheet (suc n)).0 y; later = λ k a b. absurd (omega arith) }))
      (λ z.
      let off = says_not (means_moment model sheet (suc n)) z in
      ⊎_elim
      (λ no-moment. inl (λ t a b. ⊎_elim (λ e. rw e off) (λ h. no-moment t a (omega arith)) (eq-or-lt_of_le b)))
      (λ l. inr (
        l.0,
        record {
          from = l.1.from;
          upto = omega (arith, l.1.upto);
          there = l.1.there;
          later = λ k a b. ⊎_elim (λ e. rw e off) (λ h. l.1.later k a (omega arith)) (eq-or-lt_of_le b);
        },
      ))
      (latest_or n))
      (either (moment model sheet (suc n)))

  module _ (now t : ℕ) where
    abbrev after : ℕ → Bool
    after k = ltb t k && strict model sheet k

    after_says : (k : ℕ) → t < k → Says (after k) (Strict model sheet k)
    after_says k h = rw (lt-ltb t k h) (means_strict model sheet k)

    earliest_is : (e : ℕ) → Earliest model sheet t now e → earliest model sheet t now ≡ e
    unfolding earliest
    earliest_is e r =
        first_is after (suc now) e (omega (arith, r.upto))
        (λ k h. ⊎_elim (λ y. unsaid (after_says k (ltb-true t k y)) (r.earlier k (ltb-true t k y) h)) (λ (z : ltb t k ≡ false). simp z) (either (ltb t k)))
        ((after_says e r.from).1 r.there)

    earliest_or : (e : ℕ) → earliest model sheet t now ≡ e → ((k : ℕ) → t < k → k ≤ now → ¬ Strict model sheet k) ⊎ Earliest model sheet t now e
    unfolding earliest
    earliest_or e q =
        let below : (k : ℕ) → k < e → after k ≡ false = λ k h. first_before after (suc now) k (omega arith) in
        ⊎_elim
        (λ y.
        let in_range : e < suc now = ltb-true e (suc now) y in
        let here : after e ≡ true = ap after (sym q) ∙ first_there after (suc now) (omega arith) in
        let high : t < e = ltb-true t e (both _ _ here).0 in
        inr (record { from = high; upto = omega arith; there = (after_says e high).0 here; earlier = λ k a b. says_not (after_says k a) (below k b) }))
        (λ z. inl (λ k a b.
        let w : suc now ≤ e = ltb-false e (suc now) z in
        says_not (after_says k a) (below k (omega arith))))
        (either (ltb e (suc now)))

  -- the verdict from what is known of the grant, the latest moment and the earliest strict event after it
  module _ (now t : ℕ) where
    is_granted : Grant model sheet now → latest model sheet now ≡ t → verdict model sheet now ≡ granted_at model sheet t
    unfolding verdict
    is_granted g e = rw ((means_grant model sheet now).1 g, e)

    is_denied : (e : ℕ) → (¬ Grant model sheet now) → 1 ≤ t → latest model sheet now ≡ t → earliest model sheet t now ≡ e
        → verdict model sheet now ≡ denied model sheet e
    unfolding verdict
    is_denied e g h l q = rw (unsaid (means_grant model sheet now) g, l, ne_eqb t 0 (λ z. omega arith), q)

  is_none : (now : ℕ) → (¬ Grant model sheet now) → latest model sheet now ≡ 0 → verdict model sheet now ≡ Denied None
  unfolding verdict
  is_none now g l = rw (unsaid (means_grant model sheet now) g, l)

  named : (t : ℕ) (b : Bool) → by_add model sheet t ≡ b → granted_at model sheet t ≡ cond b (Granted (Add t)) (Granted (Join t))
  unfolding granted_at
  named t b e = rw e

  caused : (e : ℕ) (b : Bool) → eqb (model e) kinds.SL ≡ b → denied model sheet e ≡ cond b (Denied (StrictLeave e)) (Denied (StrictRemove e))
  unfolding denied
  caused e b q = rw q

  pub judged_is : (now : ℕ) {v : Result Verdict Refusal} → Judged model sheet now v → v ≡ Ok (verdict model sheet now)
  judged_is now (granted_by_add t g l a) = ap Ok (sym (is_granted now t g (latest_is now t l) ∙ named t true ((means_add model sheet t).1 a)))
  judged_is now (granted_by_join t g l a) = ap Ok (sym (is_granted now t g (latest_is now t l) ∙ named t false (unsaid (means_add model sheet t) a)))
  judged_is now (none h) = ap Ok (sym (is_none now (λ g. grant_moment model sheet now g h) (latest_none now h)))
  judged_is now (strict_leave t e g l r a) =
      ap Ok (sym (is_denied now t e g l.from (latest_is now t l) (earliest_is now t e r) ∙ caused e true (eq-eqb _ _ a)))
  judged_is now (strict_remove t e g l r a) =
      ap Ok (sym (is_denied now t e g l.from (latest_is now t l) (earliest_is now t e r) ∙ caused e false (ne_eqb _ _ a)))

  some : (now t : ℕ) → Latest model sheet now t → (v : Verdict) × Judged model sheet now (Ok v)
  some now t l = ⊎_elim
      (λ y.
      let g = (means_grant model sheet now).0 y in
      ⊎_elim
      (λ a. (Granted (Add t), granted_by_add t g l ((means_add model sheet t).0 a)))
      (λ b. (Granted (Join t), granted_by_join t g l (says_not (means_add model sheet t) b)))
      (either (by_add model sheet t)))
      (λ z.
      let g = says_not (means_grant model sheet now) z in
      ⊎_elim
      (λ free. absurd (g (kept model sheet t now l.from l.upto l.there free)))
      (λ r.
      let e = earliest model sheet t now in
      ⊎_elim
      (λ a. (Denied (StrictLeave e), strict_leave t e g l r (eqb-true _ _ a)))
      (λ b. (Denied (StrictRemove e), strict_remove t e g l r (eqb-false _ _ b)))
      (either (eqb (model e) kinds.SL)))
      (earliest_or now t (earliest model sheet t now) refl))
      (either (grant model sheet now))

  any : (now : ℕ) → (v : Verdict) × Judged model sheet now (Ok v)
  any now = ⊎_elim (λ h. (Denied None, none h)) (λ l. some now l.0 l.1) (latest_or now)

  pub judged : (now : ℕ) → Judged model sheet now (Ok (verdict model sheet now))
  judged now = let a = any now in rw (← judged_is now a.1) a.1

  -- it holds of one verdict only
  pub judged_once : (now : ℕ) {v w : Result Verdict Refusal} → Judged model sheet now v → Judged model sheet now w → v ≡ w
  judged_once now x y = judged_is now x ∙ sym (judged_is now y)
