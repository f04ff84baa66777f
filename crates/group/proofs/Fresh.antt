-- A fresh group: nobody and no sheet is in, and nothing is granted. Assumes nothing.
use mathlib.Core.Path.{◌≡◌, ap, ◌∙◌}
use mathlib.Core.Bool.{false}
use Prim.Native.Nat.{ℕ}
use Rattle.rules.specs.Ranges.{sheets}
use Rattle.bits.specs.Bit.{bit, bit_in}
use Rattle.bits.proofs.Bit.{bit_zero}
use Rattle.sets.proofs.Set.{get_or_none, has_none}
use Rattle.group.specs.SheetWords.{sheet_words}
use Rattle.group.specs.Fresh.{fresh_group}
use Rattle.group.specs.Marks.{model_in, sheet_in, sheet_in_by_la}
use Rattle.bits.specs.Granted.{granted}

module _ (n : ℕ) where
  pub fresh_model_in : (m : ℕ) → model_in (fresh_group n) m ≡ false
  unfolding fresh_group
  fresh_model_in m = bit_zero m

  pub fresh_sheet_in : (s : ℕ) → sheet_in (fresh_group n) s ≡ false
  unfolding fresh_group
  fresh_sheet_in s = has_none sheet_words s

  pub fresh_sheet_in_by_la : (s : ℕ) → sheet_in_by_la (fresh_group n) s ≡ false
  unfolding fresh_group
  fresh_sheet_in_by_la s = has_none sheet_words s

  pub fresh_granted : (m s : ℕ) → granted (fresh_group n).grants m s ≡ false
  unfolding fresh_group bit_in
  fresh_granted m s = ap (λ (w : ℕ). bit w m) (get_or_none sheets s) ∙ bit_zero m
