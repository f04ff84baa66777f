-- A test says a statement: it is true exactly when the statement holds. One rule for each connective of the formula. Assumes nothing.
use mathlib.Core.Path.{◌≡◌, refl, sym, ◌∙◌}
use mathlib.Core.Bool.{Bool, true, false, not, ◌&&◌, ◌||◌, false≢true}
use mathlib.Core.Logic.{◌⊎◌, inl, inr, ⊎_elim, ◌↔◌}
use Prim.Native.Nat.{ℕ, zero, suc}
use native.Mathlib.Omega.{arith}
use native.Mathlib.Nat.{eq-or-lt_of_le}
use lib.Dec.{eqb}
use borrow.Author.Tests.{eqb-true, eq-eqb}
use Rattle.formula.specs.Since.{Since, since}

abbrev pub Says : Bool → Type 0 → Type 0
Says b P = (b ≡ true) ↔ P

pub says_eq : (a b : ℕ) → Says (eqb a b) (a ≡ b)
says_eq a b = (eqb-true a b, eq-eqb a b)

pub says_or : (a b : Bool) {P Q : Type 0} → Says a P → Says b Q → Says (a || b) (P ⊎ Q)
says_or true b p q = (λ e. inl (p.0 refl), λ s. refl)
says_or false b p q = (λ e. inr (q.0 e), λ s. ⊎_elim (λ x. absurd (false≢true (p.1 x))) q.1 s)

pub says_and : (a b : Bool) {P Q : Type 0} → Says a P → Says b Q → Says (a && b) (P × Q)
says_and true b p q = (λ e. (p.0 refl, q.0 e), λ s. q.1 s.1)
says_and false b p q = (λ e. absurd (false≢true e), λ s. p.1 s.0)

pub says_neither : (a b : Bool) {P Q : Type 0} → Says a P → Says b Q → Says (not (a || b)) ((¬ P) × (¬ Q))
says_neither true b p q = (λ e. absurd (false≢true e), λ s. absurd (s.0 (p.0 refl)))
says_neither false true p q = (λ e. absurd (false≢true e), λ s. absurd (s.1 (q.0 refl)))
says_neither false false p q = (λ e. (λ x. false≢true (p.1 x), λ y. false≢true (q.1 y)), λ s. refl)

-- what a test does not say
pub says_not : {b : Bool} {P : Type 0} → Says b P → b ≡ false → ¬ P
says_not p e x = false≢true (sym e ∙ p.1 x)

module _ {p q : ℕ → Bool} {P Q : ℕ → Type 0} (sp : (t : ℕ) → Says (p t) (P t)) (sq : (t : ℕ) → Says (q t) (Q t)) where
  -- since at tick t + 1: q there, or p there and since at t
  step : (t : ℕ) → Says (since p q t) (Since P Q t) → (Q (suc t) ⊎ (P (suc t) × Since P Q t)) ↔ Since P Q (suc t)
  step t ih = (
    ⊎_elim
        (λ y. (suc t, omega arith, omega arith, y, λ k a b. absurd (omega arith)))
        (λ s. (s.1.0, s.1.1, omega (arith, s.1.2), s.1.3, λ k a b. ⊎_elim (λ e. rw e s.0) (λ l. s.1.4 k a (omega arith)) (eq-or-lt_of_le b))),
    λ s. ⊎_elim
        (λ e. inl (rw (← e) s.3))
        (λ l. inr (s.4 (suc t) l (omega arith), (s.0, s.1, omega arith, s.3, λ k a b. s.4 k a (omega arith))))
        (eq-or-lt_of_le s.2),
  )

  pub says_since : (t : ℕ) → Says (since p q t) (Since P Q t)
  unfolding since
  says_since zero = (λ e. absurd (false≢true e), λ s. absurd (omega (arith, s.1, s.2)))
  says_since (suc t) =
      let ih = says_since t in
      let now = says_or (q (suc t)) (p (suc t) && since p q t) (sq (suc t)) (says_and (p (suc t)) (since p q t) (sp (suc t)) ih) in
      let go = step t ih in
      (λ e. go.0 (now.0 e), λ s. now.1 (go.1 s))
