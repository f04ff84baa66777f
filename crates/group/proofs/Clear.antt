-- A group without a mark: a fresh one, and one whose tick was closed. Assumes nothing.
use mathlib.Core.Path.{◌≡◌, refl, ap, ◌∙◌}
use mathlib.Core.Bool.{false}
use mathlib.Core.List.{List}
use Prim.Native.Nat.{ℕ, ◌≤◌}
use Rattle.rules.specs.Kinds.{LR}
use Rattle.bits.specs.Bit.{bit}
use Rattle.sets.specs.Set.{none, has}
use Rattle.bits.proofs.Bit.{bit_zero}
use Rattle.sets.proofs.Set.{has_none}
use Rattle.group.proofs.Cases.{each_kind}
use Rattle.group.specs.SheetWords.{sheet_words}
use Rattle.group.specs.Close.{closed_group}
use Rattle.group.specs.Fresh.{fresh_group}
use Rattle.group.specs.Marks.{mark}
use Rattle.group.specs.declared.Group.{Group}

record Clear (g : Group) : Type 0 where
  sj : g.sj ≡ 0
  lj : g.lj ≡ 0
  sl : g.sl ≡ 0
  ll : g.ll ≡ 0
  sa : g.sa ≡ none sheet_words
  la : g.la ≡ none sheet_words
  sr : g.sr ≡ none sheet_words
  lr : g.lr ≡ none sheet_words

no_bit : (w i : ℕ) → w ≡ 0 → bit w i ≡ false
no_bit w i e = ap (λ (x : ℕ). bit x i) e ∙ bit_zero i

no_sheet : (ws : List ℕ) (i : ℕ) → ws ≡ none sheet_words → has ws i ≡ false
no_sheet ws i e = ap (λ (x : List ℕ). has x i) e ∙ has_none sheet_words i

clear_mark : (g : Group) → Clear g → (k i : ℕ) → k ≤ LR → mark g k i ≡ false
clear_mark g c k i = each_kind (λ x. mark g x i ≡ false) (no_bit _ i c.sj) (no_bit _ i c.lj) (no_bit _ i c.sl) (no_bit _ i c.ll)
    (no_sheet _ i c.sa) (no_sheet _ i c.la) (no_sheet _ i c.sr) (no_sheet _ i c.lr) k

-- no mark is there yet
pub fresh_mark : (n k i : ℕ) → k ≤ LR → mark (fresh_group n) k i ≡ false
unfolding fresh_group
fresh_mark n = clear_mark (fresh_group n) (record { sj = refl; lj = refl; sl = refl; ll = refl; sa = refl; la = refl; sr = refl; lr = refl })

-- no mark is left
pub closed_mark : (g : Group) (k i : ℕ) → k ≤ LR → mark (closed_group g) k i ≡ false
unfolding closed_group
closed_mark g = clear_mark (closed_group g) (record { sj = refl; lj = refl; sl = refl; ll = refl; sa = refl; la = refl; sr = refl; lr = refl })
