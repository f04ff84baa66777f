-- What the mask says: bit i is position i, and a position grants where its group does. Assumes nothing.
use mathlib.Core.Path.{◌≡◌, refl, ap, ◌∙◌}
use mathlib.Core.Bool.{Bool, true, false, cond}
use mathlib.Core.List.{List, [], ◌∷◌}
use Prim.Native.Nat.{ℕ, zero, suc, ◌+◌, ◌*◌, ◌/◌, ◌%◌, ◌^◌, ◌<◌, ◌≤◌}
use native.Mathlib.Nat.{not-suc-le-zero, le_of_suc-le-suc}
use native.Mathlib.Omega.{arith}
use lib.Dec.{eqb}
use lib.ListN.{length, get_or}
use borrow.Author.Tests.{lt-leb}
use Rattle.rules.specs.Ranges.{models, sheets, groups}
use Rattle.bits.specs.Bit.{bit}
use Rattle.bits.proofs.Bit.{bit_zero, bit_low, bit_half}
use Rattle.bits.specs.Granted.{granted}
use Rattle.group.specs.Read.{Granted, Denied, grant_of, read_answer}
use Rattle.group.specs.declared.Group.{Group}
use Rattle.station.specs.Mask.{grants, mask_of}
use Rattle.station.proofs.Scan.{mask_fits}

low_digit : (b : Bool) (r : ℕ) → eqb ((cond b 1 0 + 2 * r) % 2) 1 ≡ b
low_digit true r = ap (λ (x : ℕ). eqb x 1) (let e : (1 + 2 * r) % 2 ≡ 1 = omega arith in e)
low_digit false r = ap (λ (x : ℕ). eqb x 1) (let e : (0 + 2 * r) % 2 ≡ 0 = omega arith in e)

rest_digits : (b : Bool) (r : ℕ) → (cond b 1 0 + 2 * r) / 2 ≡ r
rest_digits true r = omega arith
rest_digits false r = omega arith

-- "bit 0 the first"
pub mask_bit : (gs : List Group) (model sheet i : ℕ) (d : Group) → i < length gs → bit (mask_of gs model sheet) i ≡ grants (get_or gs i d) model sheet
unfolding mask_of
mask_bit [] model sheet i d h = absurd (not-suc-le-zero h)
mask_bit (g ∷ gs) model sheet zero d h = bit_low _ ∙ low_digit (grants g model sheet) (mask_of gs model sheet)
mask_bit (g ∷ gs) model sheet (suc i) d h =
    bit_half _ i ∙ ap (λ (w : ℕ). bit w i) (rest_digits (grants g model sheet) (mask_of gs model sheet)) ∙ mask_bit gs model sheet i d (le_of_suc-le-suc h)

-- and past the last there is none
pub mask_none : (gs : List Group) (model sheet i : ℕ) → length gs ≤ i → bit (mask_of gs model sheet) i ≡ false
unfolding mask_of
mask_none [] model sheet i h = bit_zero i
mask_none (g ∷ gs) model sheet zero h = absurd (not-suc-le-zero h)
mask_none (g ∷ gs) model sheet (suc i) h =
    bit_half _ i ∙ ap (λ (w : ℕ). bit w i) (rest_digits (grants g model sheet) (mask_of gs model sheet)) ∙ mask_none gs model sheet i (le_of_suc-le-suc h)

grant_case : (b : Bool) → grant_of (cond b Granted Denied) ≡ b
grant_case true = refl
grant_case false = refl

-- a model and a sheet in range
pub grants_granted : (g : Group) (model sheet : ℕ) → model < models → sheet < sheets → grants g model sheet ≡ granted g.grants model sheet
unfolding read_answer
grants_granted g model sheet hm hs = simp (lt-leb _ _ hm, lt-leb _ _ hs) (grant_case (granted g.grants model sheet))

-- "a 16-bit mask"
pub mask_16 : (gs : List Group) (model sheet : ℕ) → length gs ≤ groups → mask_of gs model sheet < 2 ^ groups
mask_16 gs model sheet h = mask_fits gs model sheet h
