-- Which sheet is faulty, from the tests; and where none is, no granted sheet's entry has a fault. Assumes nothing.
use mathlib.Core.Path.{◌≡◌, sym, ◌∙◌}
use mathlib.Core.Bool.{Bool, true, false, not}
use mathlib.Core.List.{List}
use mathlib.Core.Logic.{⊎_elim}
use Prim.Native.Nat.{ℕ, ◌<◌}
use native.Mathlib.Omega.{arith}
use borrow.Author.Tests.{ne_eqb, eqb-true, eqb-false}
use lib.Dec.{eqb}
use Rattle.base.proofs.First.{first_before, first_there}
use Rattle.base.proofs.Truth.{either, both}
use Rattle.rules.specs.Ranges.{sheets}
use Rattle.bits.specs.Granted.{granted}
use Rattle.store.specs.Entry.{entry_fault}
use Rattle.parts.specs.Fault.{faulty, first_faulty}

module _ (grants : List ℕ) (m : ℕ) (b : List ℕ) (s : ℕ) where
  pub faulty_ungranted : granted grants m s ≡ false → faulty grants m b s ≡ false
  unfolding faulty
  faulty_ungranted g = simp g

  pub faulty_not : granted grants m s ≡ true → entry_fault b s ≡ 0 → faulty grants m b s ≡ false
  unfolding faulty
  faulty_not g e = simp (g, e)

  pub faulty_so : granted grants m s ≡ true → (entry_fault b s ≡ 0 → ⊥) → faulty grants m b s ≡ true
  unfolding faulty
  faulty_so g e = simp (g, ne_eqb (entry_fault b s) 0 e)

  pub fault_free : first_faulty grants m b ≡ sheets → s < sheets → granted grants m s ≡ true → entry_fault b s ≡ 0
  fault_free all h g = ⊎_elim
      (λ (t : eqb (entry_fault b s) 0 ≡ true). eqb-true _ _ t)
      (λ (f : eqb (entry_fault b s) 0 ≡ false).
      let so = faulty_so g (eqb-false _ _ f) in
      let not_so = first_before (faulty grants m b) sheets s (omega arith) in
      let z : ◌≡◌ {A = Bool} true false = sym so ∙ not_so in
      cc)
      (either (eqb (entry_fault b s) 0))

-- the first faulty sheet is a granted one, and its entry has a fault
module _ (grants : List ℕ) (m : ℕ) (b : List ℕ) (h : first_faulty grants m b < sheets) where
  pub first_granted : granted grants m (first_faulty grants m b) ≡ true
  unfolding faulty
  first_granted = (both _ _ (first_there (faulty grants m b) sheets h)).0

  pub first_fault : entry_fault b (first_faulty grants m b) ≡ 0 → ⊥
  unfolding faulty
  first_fault e =
      let s = first_faulty grants m b in
      let so : ◌≡◌ {A = Bool} false true = simp e at (both (granted grants m s) (not (eqb (entry_fault b s) 0)) (first_there (faulty grants m b) sheets h)).1 in
      cc
