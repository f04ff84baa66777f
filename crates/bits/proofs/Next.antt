-- The next bit that is set, and what the zeros at a number's low end say of it. Assumes nothing.
use mathlib.Core.Path.{◌≡◌, refl, sym, ap, ◌∙◌}
use mathlib.Core.Bool.{Bool, true, false, ◌&&◌}
use mathlib.Core.Logic.{⊎_elim}
use Prim.Native.Nat.{ℕ, zero, suc, ◌+◌, ◌-◌, ◌/◌, ◌%◌, ◌^◌, ◌≤◌, ◌<◌}
use native.Mathlib.Nat.{eq-or-lt_of_le}
use native.Mathlib.Omega.{arith}
use lib.Count.{count_trailing_zeros, under}
use lib.Dec.{eqb, leb}
use lib.Pow.{shr-shr}
use borrow.Author.Tests.{le-leb, leb-true}
use Rattle.base.specs.First.{first}
use Rattle.base.proofs.First.{first_none, first_is, first_le, first_before, first_there}
use Rattle.base.proofs.Truth.{either, both}
use Rattle.bits.specs.Bit.{width, bit, next_bit}
use Rattle.bits.proofs.Bit.{bit_low, bit_half}

-- ---- what `next_bit` finds

abbrev wanted : ℕ → ℕ → ℕ → Bool
wanted w from i = leb from i && bit w i

module _ (w from : ℕ) where
  pub next_le : next_bit w from ≤ width
  unfolding next_bit
  next_le = first_le (wanted w from) width

  pub next_from : from ≤ width → from ≤ next_bit w from
  unfolding next_bit
  next_from l = ⊎_elim
      (λ (e : first (wanted w from) width ≡ width). omega arith)
      (λ (h : first (wanted w from) width < width). leb-true _ _ (both _ _ (first_there (wanted w from) width h)).0)
      (eq-or-lt_of_le (first_le (wanted w from) width))

  -- no bit is set on the way
  pub next_unset : (i : ℕ) → from ≤ i → i < next_bit w from → bit w i ≡ false
  unfolding next_bit
  next_unset i l h = let e = first_before (wanted w from) width i h in rw (le-leb from i l) at e

  unwanted : (i : ℕ) → (from ≤ i → bit w i ≡ false) → wanted w from i ≡ false
  unwanted i h = ⊎_elim (λ (t : leb from i ≡ true). rw (t, h (leb-true from i t)) refl) (λ (f : leb from i ≡ false). rw f refl) (either (leb from i))

  pub next_none : ((i : ℕ) → from ≤ i → i < width → bit w i ≡ false) → next_bit w from ≡ width
  unfolding next_bit
  next_none h = first_none (wanted w from) width (λ i l. unwanted i (λ a. h i a l))

  pub next_is : (r : ℕ) → from ≤ r → r < width → bit w r ≡ true → ((i : ℕ) → from ≤ i → i < r → bit w i ≡ false) → next_bit w from ≡ r
  unfolding next_bit
  next_is r l b t h = first_is (wanted w from) width r b (λ i c. unwanted i (λ a. h i a c)) (simp (le-leb from r l, t))

-- ---- zeros at the low end

-- the lowest bit set is at the number of zeros below it
none_step : (w i r t : ℕ) → ((j : ℕ) → j < t → bit (w / 2) j ≡ false) → w % 2 ≡ r → i < under r t → bit w i ≡ false
none_step w zero zero t ih e h = bit_low w ∙ ap (λ (x : ℕ). eqb x 1) e
none_step w (suc j) zero t ih e h = bit_half w j ∙ ih j (omega arith)
none_step w i (suc r) t ih e h = absurd (omega arith)

pub zeros_unset : (d w i : ℕ) → i < count_trailing_zeros d w → bit w i ≡ false
unfolding count_trailing_zeros
zeros_unset zero w i h = absurd (omega arith)
zeros_unset (suc d) w i h = none_step w i (w % 2) (count_trailing_zeros d (w / 2)) (zeros_unset d (w / 2)) refl h

set_step : (w r t d : ℕ) → (t < d → bit (w / 2) t ≡ true) → w % 2 ≡ r → under r t < suc d → bit w (under r t) ≡ true
set_step w zero t d ih e h = bit_half w t ∙ ih (omega arith)
set_step w (suc zero) t d ih e h = bit_low w ∙ ap (λ (x : ℕ). eqb x 1) e
set_step w (suc (suc r)) t d ih e h = absurd (omega arith)

pub zeros_set : (d w : ℕ) → count_trailing_zeros d w < d → bit w (count_trailing_zeros d w) ≡ true
unfolding count_trailing_zeros
zeros_set zero w h = absurd (omega arith)
zeros_set (suc d) w h = set_step w (w % 2) (count_trailing_zeros d (w / 2)) d (zeros_set d (w / 2)) refl h

-- a bit of what is left after a shift
pub bit_shifted : (w from i : ℕ) → from ≤ i → bit w i ≡ bit (w / 2 ^ from) (i - from)
unfolding bit
bit_shifted w from i l =
    let e : i ≡ from + (i - from) = omega arith in
    ap (λ (x : ℕ). eqb (x % 2) 1) (ap (λ (k : ℕ). w / 2 ^ k) e ∙ sym (shr-shr w from (i - from)))
