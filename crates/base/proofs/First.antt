-- What `first` finds: no earlier place passes the test, and its own does. Assumes nothing.
use mathlib.Core.Path.{◌≡◌, refl, sym, ap, ap₂, ◌∙◌}
use mathlib.Core.Bool.{Bool, true, false, cond}
use mathlib.Core.Logic.{⊎_elim}
use Prim.Native.Nat.{ℕ, zero, suc, ◌≤◌, ◌<◌}
use native.Mathlib.Omega.{arith}
use native.Mathlib.Nat.{eq-or-lt_of_le}
use lib.Dec.{ltb}
use borrow.Author.Tests.{ltb-true, ltb-false, lt-ltb, le-ltb}
use Rattle.base.specs.First.{first}
use Rattle.base.proofs.Truth.{either}

-- no k below i passes
abbrev pub None : (ℕ → Bool) → ℕ → Type 0
None p i = (k : ℕ) → k < i → p k ≡ false

-- two tests that agree below n find the same
pub first_ext : (p q : ℕ → Bool) (n : ℕ) → ((k : ℕ) → k < n → p k ≡ q k) → first p n ≡ first q n
unfolding first
first_ext p q zero e = refl
first_ext p q (suc n) e =
    ap₂ (λ (f : ℕ) (b : Bool). cond (ltb f n) f (cond b n (suc n))) (first_ext p q n (λ k h. e k (omega arith))) (e n (omega arith))

module _ (p : ℕ → Bool) where
  -- one step of the search: found before, found now, or not yet
  pub step_found : (n : ℕ) → first p n < n → first p (suc n) ≡ first p n
  unfolding first
  step_found n h = simp (lt-ltb (first p n) n h)

  pub step_now : (n : ℕ) → n ≤ first p n → p n ≡ true → first p (suc n) ≡ n
  unfolding first
  step_now n h t = simp (le-ltb (first p n) n h, t)

  pub step_on : (n : ℕ) → n ≤ first p n → p n ≡ false → first p (suc n) ≡ suc n
  unfolding first
  step_on n h t = simp (le-ltb (first p n) n h, t)

  -- none below n passes: n itself
  pub first_none : (n : ℕ) → None p n → first p n ≡ n
  unfolding first
  first_none zero h = refl
  first_none (suc n) h =
      let e : first p n ≡ n = first_none n (λ k hk. h k (omega arith)) in
      step_on n (omega arith) (h n (omega arith))

  -- i is the first that passes
  pub first_is : (n i : ℕ) → i < n → None p i → p i ≡ true → first p n ≡ i
  first_is zero i h none t = absurd (omega arith)
  first_is (suc n) i h none t = ⊎_elim
      (λ e.
      let f : first p n ≡ n = first_none n (λ k hk. none k (omega arith)) in
      step_now n (omega arith) (ap p (sym e) ∙ t) ∙ sym e)
      (λ l.
      let f : first p n ≡ i = first_is n i l none t in
      step_found n (omega arith) ∙ f)
      (eq-or-lt_of_le (let w : i ≤ n = omega arith in w))

  -- what is found is where the search looked
  record Found (n : ℕ) : Type 0 where
    inside : first p n ≤ n
    before : None p (first p n)
    there : first p n < n → p (first p n) ≡ true

  found : (n : ℕ) → Found n
  unfolding first
  found zero = record { inside = omega arith; before = λ k h. absurd (omega arith); there = λ h. absurd (omega arith) }
  found (suc n) =
      let r = found n in
      let i = r.inside in
      ⊎_elim
      (λ t.
      let e = step_found n (ltb-true _ _ t) in
      record { inside = omega arith; before = λ k h. r.before k (omega arith); there = λ h. ap p e ∙ r.there (ltb-true _ _ t) })
      (λ f.
      let w = ltb-false _ _ f in
      ⊎_elim
      (λ y.
      let e = step_now n w y in
      record { inside = omega arith; before = λ k h. r.before k (omega arith); there = λ h. ap p e ∙ y })
      (λ z.
      let e = step_on n w z in
      record {
        inside = omega arith;
        before = λ k h. ⊎_elim (λ q. ap p q ∙ z) (λ l. r.before k (omega arith)) (eq-or-lt_of_le (let v : k ≤ n = omega arith in v));
        there = λ h. absurd (omega arith);
      })
      (either (p n)))
      (either (ltb (first p n) n))

  pub first_le : (n : ℕ) → first p n ≤ n
  first_le n = (found n).inside

  pub first_before : (n : ℕ) → None p (first p n)
  first_before n = (found n).before

  pub first_there : (n : ℕ) → first p n < n → p (first p n) ≡ true
  first_there n = (found n).there
