-- The fault of an entry, case by case, and what an entry without fault is like. Assumes nothing.
use mathlib.Core.Path.{◌≡◌}
use mathlib.Core.Bool.{true, false}
use mathlib.Core.List.{List}
use mathlib.Core.Logic.{⊎_elim}
use Prim.Native.Nat.{ℕ, ◌+◌, ◌≤◌, ◌<◌}
use native.Mathlib.Omega.{arith}
use lib.Dec.{ltb}
use borrow.Author.Tests.{le-ltb, ltb-true, leb-true}
use Rattle.base.proofs.Truth.{either, both}
use Rattle.rules.specs.Refusals.{not_in_store, bad_entry}
use Rattle.store.specs.Store.{total_length, sheet_count, bytes_start}
use Rattle.store.specs.Entry.{offset, sheet_length, good_entry, entry_fault}

module _ (b : List ℕ) (s : ℕ) where
  pub fault_missing : sheet_count b ≤ s → entry_fault b s ≡ not_in_store
  unfolding entry_fault
  fault_missing h = simp (le-ltb _ _ h)

  -- an entry without fault: its bytes lie in the store, behind the pairs
  pub record Sound : Type 0 where
    pub inside : s < sheet_count b
    pub behind : bytes_start b ≤ offset b s
    pub within : offset b s + sheet_length b s ≤ total_length b

  sound_good : s < sheet_count b → good_entry b s ≡ true → Sound
  unfolding good_entry
  sound_good h e =
      let p = both _ _ e in
      record { inside = h; behind = leb-true _ _ p.0; within = leb-true _ _ p.1 }

  pub sound : entry_fault b s ≡ 0 → Sound
  unfolding entry_fault
  sound e = ⊎_elim
      (λ (t : ltb s (sheet_count b) ≡ true).
      ⊎_elim
      (λ g. sound_good (ltb-true _ _ t) g)
      (λ (g : good_entry b s ≡ false). let bad : entry_fault b s ≡ bad_entry = simp (t, g) in absurd (omega arith))
      (either (good_entry b s)))
      (λ (f : ltb s (sheet_count b) ≡ false). let bad : entry_fault b s ≡ not_in_store = simp f in absurd (omega arith))
      (either (ltb s (sheet_count b)))
