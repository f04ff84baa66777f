-- The pass over ticks tells the verdict of the formula, and whether the grant holds. Assumes nothing.
use mathlib.Core.Path.{◌≡◌, refl, sym, ap, ◌∙◌}
use mathlib.Core.Bool.{Bool, true, false, not, ◌&&◌, ◌||◌, and-false}
use mathlib.Core.Logic.{⊎_elim}
use Prim.Native.Nat.{ℕ, zero, suc, ◌≤◌}
use native.Mathlib.Omega.{arith}
use lib.Dec.{eqb, ltb}
use borrow.Author.Tests.{lt-ltb, le-ltb, ne_eqb}
use Rattle.base.proofs.First.{first_none, step_found, step_now, step_on}
use Rattle.base.proofs.Truth.{either}
use Rattle.rules.specs.Kinds.{SL, SR}
use Rattle.formula.specs.Formula.{History}
use Rattle.formula.specs.Ticks.{inside, liberal, by_add, by_join, strict, grant}
use Rattle.formula.specs.Verdict.{latest, earliest, granted_at, denied, verdict}
use Rattle.formula.proofs.Move.{inside_start, inside_moves, liberal_start, liberal_moves, grant_start, grant_moves}
use Rattle.standing.specs.declared.Standing.{Standing}
use Rattle.standing.specs.declared.Standing.TheVariants.{Never, ByAdd, ByJoin, Left, Removed}
use Rattle.standing.specs.Scan.{stands_after, scan_to, told_by, holding}

module _ (model sheet : History) where
  -- ---- membership and the liberal stay
  scan_inside : (t : ℕ) → (scan_to model sheet t).inside ≡ inside model t
  unfolding scan_to
  scan_inside zero = sym (inside_start model)
  scan_inside (suc t) = rw (inside_moves model t, scan_inside t)

  scan_liberal : (t : ℕ) → (scan_to model sheet t).liberal ≡ liberal sheet t
  unfolding scan_to
  scan_liberal zero = sym (liberal_start sheet)
  scan_liberal (suc t) = rw (liberal_moves sheet t, scan_liberal t)

  -- ---- what each standing says of the ticks up to t
  abbrev Held : ℕ → ℕ → Bool → Type 0
  Held t k by_adds = (grant model sheet t ≡ true) × (latest model sheet t ≡ k) × (1 ≤ k) × (earliest model sheet k t ≡ suc t) × (by_add model sheet k ≡ by_adds)

  abbrev Ended : ℕ → ℕ → Bool → Type 0
  Ended t e by_leave =
      (grant model sheet t ≡ false) × (1 ≤ latest model sheet t) × (earliest model sheet (latest model sheet t) t ≡ e) × (e ≤ t) × (eqb (model e) SL ≡ by_leave)

  abbrev Stands : ℕ → Standing → Type 0
  Stands t Never = (grant model sheet t ≡ false) × (latest model sheet t ≡ 0)
  Stands t (ByAdd k) = Held t k true
  Stands t (ByJoin k) = Held t k false
  Stands t (Left e) = Ended t e true
  Stands t (Removed e) = Ended t e false

  told : (t : ℕ) (x : Standing) → Stands t x → told_by x ≡ verdict model sheet t
  unfolding verdict granted_at denied
  told t Never s = rw (s.0, s.1)
  told t (ByAdd k) s = rw (s.0, s.1, s.4)
  told t (ByJoin k) s = rw (s.0, s.1, s.4)
  told t (Left e) s = rw (s.0, ne_eqb (latest model sheet t) 0 (λ z. omega (arith, s.1)), s.2, s.4)
  told t (Removed e) s = rw (s.0, ne_eqb (latest model sheet t) 0 (λ z. omega (arith, s.1)), s.2, s.4)

  module _ (t : ℕ) where
    abbrev A : Bool
    A = by_add model sheet (suc t)

    abbrev J : Bool
    J = by_join model sheet (suc t)

    abbrev L : Bool
    L = eqb (model (suc t)) SL

    abbrev R : Bool
    R = eqb (sheet (suc t)) SR

    -- a moment in this tick, or none
    latest_now : A || J ≡ true → latest model sheet (suc t) ≡ suc t
    unfolding latest
    latest_now e = rw e

    latest_same : A || J ≡ false → latest model sheet (suc t) ≡ latest model sheet t
    unfolding latest
    latest_same e = rw e

    granted_now : A || J ≡ true → grant model sheet (suc t) ≡ true
    granted_now e = grant_moves model sheet t ∙ rw e

    ended_now : A || J ≡ false → L || R ≡ true → grant model sheet (suc t) ≡ false
    ended_now e f = grant_moves model sheet t ∙ rw (e, f)

    granted_same : A || J ≡ false → L || R ≡ false → grant model sheet (suc t) ≡ grant model sheet t
    granted_same e f = grant_moves model sheet t ∙ rw (e, f)

    off : A || J ≡ false → grant model sheet t ≡ false → grant model sheet (suc t) ≡ false
    off e g = grant_moves model sheet t ∙ rw (e, g) (and-false (not (L || R)))

    -- the earliest strict event after k, one tick on
    module _ (k : ℕ) where
      abbrev p : ℕ → Bool
      p u = ltb k u && strict model sheet u

      early_found : earliest model sheet k t ≤ t → earliest model sheet k (suc t) ≡ earliest model sheet k t
      unfolding earliest
      early_found h = step_found p (suc t) (omega arith)

      early_now : earliest model sheet k t ≡ suc t → k ≤ t → L || R ≡ true → earliest model sheet k (suc t) ≡ suc t
      unfolding earliest
      early_now h l e = step_now p (suc t) (omega arith) (rw (lt-ltb k (suc t) (omega arith), e))

      early_on : earliest model sheet k t ≡ suc t → L || R ≡ false → earliest model sheet k (suc t) ≡ suc (suc t)
      unfolding earliest
      early_on h e = step_on p (suc t) (omega arith) (rw e (and-false (ltb k (suc t))))

    early_none : earliest model sheet (suc t) (suc t) ≡ suc (suc t)
    unfolding earliest
    early_none = first_none (p (suc t)) (suc (suc t)) (λ u h. simp (le-ltb (suc t) u (omega arith)))

    -- one tick on, by what happens in it
    abbrev Moves : Standing → Bool → Bool → Bool → Bool → Type 0
    Moves x a j l r = A ≡ a → J ≡ j → L ≡ l → R ≡ r → Stands (suc t) (stands_after x (suc t) a j l r)

    held_now : (a : Bool) → A ≡ a → A || J ≡ true → Held (suc t) (suc t) a
    held_now a ea m = (granted_now m, latest_now m, omega arith, early_none, ea)

    held_on : (k : ℕ) (a : Bool) → A || J ≡ false → L || R ≡ false → Held t k a → Held (suc t) k a
    held_on k a m f s = (granted_same m f ∙ s.0, latest_same m ∙ s.1, s.2, early_on k s.3 f, s.4)

    held_ended : (k : ℕ) (a l : Bool) → L ≡ l → A || J ≡ false → L || R ≡ true → k ≤ t → Held t k a → Ended (suc t) (suc t) l
    held_ended k a l el m f h s =
        let same = latest_same m ∙ s.1 in
        (ended_now m f, omega (arith, same, s.2), ap (λ (x : ℕ). earliest model sheet x (suc t)) same ∙ early_now k s.3 h f, omega arith, el)

    ended_on : (e : ℕ) (l : Bool) → A || J ≡ false → Ended t e l → Ended (suc t) e l
    ended_on e l m s =
        let same = latest_same m in (
          off m s.0,
          omega (arith, same, s.1),
          ap (λ (x : ℕ). earliest model sheet x (suc t)) same ∙ early_found (latest model sheet t) (omega (arith, s.2, s.3)) ∙ s.2,
          omega (arith, s.3),
          s.4,
        )

    never_on : A || J ≡ false → Stands t Never → Stands (suc t) Never
    never_on m s = (off m s.0, latest_same m ∙ s.1)

    latest_le : (u : ℕ) → latest model sheet u ≤ u
    unfolding latest
    latest_le zero = omega arith
    latest_le (suc u) = ⊎_elim
        (λ y. rw y (omega arith))
        (λ z. rw z (omega (arith, latest_le u)))
        (either (by_add model sheet (suc u) || by_join model sheet (suc u)))

    k_le : (k : ℕ) (a : Bool) → Held t k a → k ≤ t
    k_le k a s = omega (arith, latest_le t, s.1)

    move : (x : Standing) → Stands t x → (a j l r : Bool) → Moves x a j l r
    move x s true j l r ea ej el er = held_now true ea (rw ea)
    move x s false true l r ea ej el er = held_now false ea (rw (ea, ej))
    move Never s false false true r ea ej el er = never_on (rw (ea, ej)) s
    move (ByAdd k) s false false true r ea ej el er = held_ended k true true el (rw (ea, ej)) (rw el) (k_le k true s) s
    move (ByJoin k) s false false true r ea ej el er = held_ended k false true el (rw (ea, ej)) (rw el) (k_le k false s) s
    move (Left e) s false false true r ea ej el er = ended_on e true (rw (ea, ej)) s
    move (Removed e) s false false true r ea ej el er = ended_on e false (rw (ea, ej)) s
    move Never s false false false true ea ej el er = never_on (rw (ea, ej)) s
    move (ByAdd k) s false false false true ea ej el er = held_ended k true false el (rw (ea, ej)) (rw (el, er)) (k_le k true s) s
    move (ByJoin k) s false false false true ea ej el er = held_ended k false false el (rw (ea, ej)) (rw (el, er)) (k_le k false s) s
    move (Left e) s false false false true ea ej el er = ended_on e true (rw (ea, ej)) s
    move (Removed e) s false false false true ea ej el er = ended_on e false (rw (ea, ej)) s
    move Never s false false false false ea ej el er = never_on (rw (ea, ej)) s
    move (ByAdd k) s false false false false ea ej el er = held_on k true (rw (ea, ej)) (rw (el, er)) s
    move (ByJoin k) s false false false false ea ej el er = held_on k false (rw (ea, ej)) (rw (el, er)) s
    move (Left e) s false false false false ea ej el er = ended_on e true (rw (ea, ej)) s
    move (Removed e) s false false false false ea ej el er = ended_on e false (rw (ea, ej)) s

  -- the standing after tick t + 1 follows from the one after t
  next : (t : ℕ) → (scan_to model sheet (suc t)).standing
      ≡ stands_after (scan_to model sheet t).standing (suc t) (A t) (J t) (L t) (R t)
  unfolding scan_to by_add by_join
  next t = rw (inside_moves model t, liberal_moves sheet t, scan_inside t, scan_liberal t)

  stands : (t : ℕ) → Stands t (scan_to model sheet t).standing
  unfolding scan_to latest
  stands zero = (grant_start model sheet, refl)
  stands (suc t) = rw (next t) (move t (scan_to model sheet t).standing (stands t) (A t) (J t) (L t) (R t) refl refl refl refl)

  pub scan_tells : (t : ℕ) → told_by (scan_to model sheet t).standing ≡ verdict model sheet t
  scan_tells t = told t (scan_to model sheet t).standing (stands t)

  -- the grant holds by the standing exactly when it holds by the formula
  held : (t : ℕ) (x : Standing) → Stands t x → holding x ≡ grant model sheet t
  held t Never s = sym s.0
  held t (ByAdd k) s = sym s.0
  held t (ByJoin k) s = sym s.0
  held t (Left e) s = sym s.0
  held t (Removed e) s = sym s.0

  pub scan_holds : (t : ℕ) → holding (scan_to model sheet t).standing ≡ grant model sheet t
  scan_holds t = held t (scan_to model sheet t).standing (stands t)
