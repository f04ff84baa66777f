-- A turn takes the events of the next tick that has any. Assumes nothing.
use mathlib.Core.Path.{◌≡◌, refl, sym, subst, subst₂}
use mathlib.Core.Bool.{true, false}
use mathlib.Core.List.{List}
use mathlib.Core.Logic.{⊎_elim}
use Prim.Native.Nat.{ℕ, ◌+◌, ◌≤◌, ◌<◌}
use native.Mathlib.Omega.{arith}
use lib.Dec.{ltb}
use lib.ListN.{length}
use borrow.Author.Tests.{ltb-true, ltb-false}
use Rattle.base.proofs.Truth.{either}
use Rattle.strip.proofs.Places.{tick_at, Rising}
use Rattle.stepping.specs.Next.{never, head_of}
use Rattle.stepping.specs.declared.Head.{Head}
use Rattle.stepping.proofs.Pass.{Place, place, Passed, Turned, pass_start, model_first, sheet_first, both_first}
use Rattle.pass.specs.Pass.{begun, model_taken, sheet_taken, both_taken, advanced}
use Rattle.pass.specs.declared.Pass.{Pass}

-- where a pass stands
abbrev pub place_of : Pass → Place
place_of p = place p.i p.j p.tick p.seen

-- it has taken the events up to its tick, and knows the next of each strip
pub record Stands (m s : List ℕ) (p : Pass) : Type 0 where
  pub passed : Passed m s (place_of p)
  pub next_m : p.model ≡ head_of m p.i
  pub next_s : p.sheet ≡ head_of s p.j

-- a turn from p to q
pub record Turns (m s : List ℕ) (p q : Pass) : Type 0 where
  pub stands : Stands m s q
  pub turned : Turned m s (place_of p) (place_of q)

module _ (m s : List ℕ) (rm : Rising m) (rs : Rising s) where
  pub begins : Stands m s (begun m s)
  begins = record { passed = pass_start m s rm rs; next_m = refl; next_s = refl }

  module _ (p : Pass) (x : Stands m s p) (fm : tick_at m p.i < never) (fs : tick_at s p.j < never) where
    by_model : p.model.tick < p.sheet.tick → Turns m s p (model_taken m p p.model)
    by_model h =
        let l : (head_of m p.i).tick < (head_of s p.j).tick = rw (x.next_m, x.next_s) at h in
        let t = model_first m s rm rs (place_of p) x.passed fm fs l in
        subst (λ (a : Head). Turns m s p (model_taken m p a)) (sym x.next_m) (record { stands = record { passed = t.passed; next_m = refl; next_s = x.next_s }; turned = t })

    by_sheet : p.sheet.tick < p.model.tick → Turns m s p (sheet_taken s p p.sheet)
    by_sheet h =
        let l : (head_of s p.j).tick < (head_of m p.i).tick = rw (x.next_m, x.next_s) at h in
        let t = sheet_first m s rm rs (place_of p) x.passed fm fs l in
        subst (λ (b : Head). Turns m s p (sheet_taken s p b)) (sym x.next_s) (record { stands = record { passed = t.passed; next_m = x.next_m; next_s = refl }; turned = t })

    by_both : p.sheet.tick ≤ p.model.tick → p.model.tick ≤ p.sheet.tick → p.i + p.j < length m + length s → Turns m s p (both_taken m s p p.model p.sheet)
    by_both h g left =
        let k : (head_of s p.j).tick ≤ (head_of m p.i).tick = rw (x.next_m, x.next_s) at h in
        let l : (head_of m p.i).tick ≤ (head_of s p.j).tick = rw (x.next_m, x.next_s) at g in
        let t = both_first m s rm rs (place_of p) x.passed fm fs (omega arith) left in
        subst₂ (λ (a b : Head). Turns m s p (both_taken m s p a b)) (sym x.next_m) (sym x.next_s) (record { stands = record { passed = t.passed; next_m = refl; next_s = refl }; turned = t })

    pub turns : p.i + p.j < length m + length s → Turns m s p (advanced m s p)
    turns left =
        let a = p.model.tick in
        let b = p.sheet.tick in
        ⊎_elim
        (λ (t : ltb a b ≡ true). rw t (by_model (ltb-true a b t)))
        (λ (f : ltb a b ≡ false). ⊎_elim
        (λ (t : ltb b a ≡ true). rw (f, t) (by_sheet (ltb-true b a t)))
        (λ (g : ltb b a ≡ false). rw (f, g) (by_both (ltb-false a b f) (ltb-false b a g) left))
        (either (ltb b a)))
        (either (ltb a b))
