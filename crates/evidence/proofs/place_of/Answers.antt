-- `evidence::place_of` meets its contract.
use mathlib.Core.Path.{◌≡◌, sym, ◌∙◌}
use mathlib.Core.List.{List}
use mathlib.Core.Logic.{⊎_elim}
use Prim.Native.Nat.{ℕ, ◌≤◌, ◌<◌}
use native.Mathlib.Nat.{eq-or-lt_of_le}
use native.Mathlib.Omega.{arith}
use lib.Dec.{eqb}
use lib.ListN.{length, get_or}
use borrow.Author.Rules.{rules}
use borrow.Author.Tests.{eq-eqb, ne_eqb}
use Rattle.std.proofs.iter.runs.Made.{chains}
use Rattle.base.proofs.First.{first_is, first_none}
use Rattle.event.specs.Word.{tick_of}
use Rattle.evidence.specs.Evidence.{place_of}
use Rattle.evidence.proofs.place_of.Goals as goal

place_is : (s : List ℕ) (t p : ℕ) → p ≤ length s → ((k : ℕ) → k < p → tick_of (get_or s k 0) ≡ t → ⊥) → (p < length s → tick_of (get_or s p 0) ≡ t) → p ≡ place_of s t
unfolding place_of
place_is s t p l before here = ⊎_elim
    (λ (e : p ≡ length s). e ∙ sym (first_none (λ k. eqb (tick_of (get_or s k 0)) t) (length s) (λ k h. ne_eqb _ _ (before k (omega arith)))))
    (λ (m : p < length s). sym (first_is (λ k. eqb (tick_of (get_or s k 0)) t) (length s) p m (λ k h. ne_eqb _ _ (before k h)) (eq-eqb _ _ (here m))))
    (eq-or-lt_of_le l)

pub returns : goal.returns
returns c =
    (place_is c.args.s.now c.args.tick _ (search (rules, chains)) (search (rules, chains)) (search (rules, chains)), search (rules, chains))
