-- What a store is refused for depends on its length and its header alone, and an entry's fault on the header and on that entry's own pair. Assumes nothing.
use mathlib.Core.Path.{◌≡◌, sym, ap, ap₂, ◌∙◌}
use mathlib.Core.Bool.{Bool, true, false, cond}
use mathlib.Core.List.{List}
use mathlib.Core.Logic.{⊎_elim}
use Prim.Native.Nat.{ℕ, ◌<◌}
use native.Mathlib.Omega.{arith}
use borrow.Author.Tests.{ltb-true, ltb-false}
use lib.Dec.{ltb}
use lib.ListN.{length, take}
use Rattle.base.proofs.Truth.{either}
use Rattle.rules.specs.Refusals.{not_in_store, bad_entry}
use Rattle.wire.specs.Word.{le32}
use Rattle.wire.proofs.Word.{le32_take}
use Rattle.store.specs.Store.{total_length, sheet_count, good_store}
use Rattle.store.specs.Entry.{offset, sheet_length, good_entry, entry_fault}
use Rattle.store.proofs.Entry.{fault_missing}

module _ (b b' : List ℕ) (header : take 8 b ≡ take 8 b') where
  same_total : total_length b ≡ total_length b'
  same_total = sym (le32_take b 8 0 (omega arith)) ∙ ap (λ (l : List ℕ). le32 l 0) header ∙ le32_take b' 8 0 (omega arith)

  same_count : sheet_count b ≡ sheet_count b'
  same_count = sym (le32_take b 8 4 (omega arith)) ∙ ap (λ (l : List ℕ). le32 l 4) header ∙ le32_take b' 8 4 (omega arith)

  pub same_store : length b ≡ length b' → good_store b ≡ good_store b'
  unfolding good_store
  same_store long = simp (same_total, same_count, long)

  -- The pair counts where the store has it.
  module _ (s : ℕ) (pair : s < sheet_count b → (offset b s ≡ offset b' s) × (sheet_length b s ≡ sheet_length b' s)) where
    same_entry : s < sheet_count b → good_entry b s ≡ good_entry b' s
    unfolding good_entry
    same_entry l = simp (same_total, same_count, (pair l).0, (pair l).1)

    pub same_fault : entry_fault b s ≡ entry_fault b' s
    unfolding entry_fault
    same_fault = ⊎_elim
        (λ (t : ltb s (sheet_count b) ≡ true). ap₂ (λ (n : ℕ) (x : Bool). cond (ltb s n) (cond x 0 bad_entry) not_in_store) same_count (same_entry (ltb-true _ _ t)))
        (λ (f : ltb s (sheet_count b) ≡ false).
        let beyond = ltb-false _ _ f in
        fault_missing b s beyond ∙ sym (fault_missing b' s (omega (arith, same_count))))
        (either (ltb s (sheet_count b)))
