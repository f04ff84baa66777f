-- The mask as a scan from the last position to the first: what a position adds to it, and that it fits. Nothing here is about code. Assumes nothing.
use Rattle.std.proofs.Common.{◌≡◌, ◌+◌, ◌-◌, ◌*◌, ◌<◌, ◌≤◌, ℕ, cond, List, [], ◌∷◌, length, get_or, drop, sym, ap, ◌∙◌, arith, length-drop}
use Prim.Native.Nat.{◌^◌}
use native.Mathlib.Nat.{pow-succ', lt_of_lt_of_le, pow-le-pow_right}
use Rattle.std.proofs.lemmas.List.{at_drop_more}
use Rattle.base.proofs.Truth.{one_le}
use Rattle.rules.specs.Ranges.{groups}
use Rattle.group.specs.declared.Group.{Group}
use Rattle.station.specs.Mask.{grants, mask_of}

-- a position's bit goes below the mask of those after it
pub mask_more : (gs : List Group) (model sheet k : ℕ) (g : Group) → k < length gs → g ≡ get_or gs (length gs - 1 - k) g
    → cond (grants g model sheet) 1 0 + 2 * mask_of (drop (length gs - k) gs) model sheet ≡ mask_of (drop (length gs - (k + 1)) gs) model sheet
unfolding mask_of
mask_more gs model sheet k g h e =
    let here : length gs - (k + 1) ≡ length gs - 1 - k = omega arith in
    let after : length gs - k ≡ length gs - 1 - k + 1 = omega arith in
    rw (here, after) (ap (λ (x : Group). cond (grants x model sheet) 1 0 + 2 * mask_of (drop (length gs - 1 - k + 1) gs) model sheet) e
    ∙ sym (at_drop_more (λ (xs : List Group). mask_of xs model sheet) gs (length gs - 1 - k) g (omega arith)))

-- ---- the mask fits

pub mask_below : (gs : List Group) (model sheet : ℕ) → mask_of gs model sheet < 2 ^ length gs
unfolding mask_of
mask_below [] model sheet = omega arith
mask_below (g ∷ gs) model sheet = omega (arith, pow-succ' 2 (length gs), mask_below gs model sheet, one_le (grants g model sheet))

-- of at most 16 groups
pub mask_fits : (gs : List Group) (model sheet : ℕ) → length gs ≤ groups → mask_of gs model sheet < 2 ^ groups
mask_fits gs model sheet le = lt_of_lt_of_le (mask_below gs model sheet) (pow-le-pow_right {n = 2} (omega arith) {i = length gs} {j = groups} le)

pub tail_fits : (gs : List Group) (i model sheet : ℕ) → length gs ≤ groups → mask_of (drop i gs) model sheet < 2 ^ groups
tail_fits gs i model sheet le = mask_fits (drop i gs) model sheet (omega (arith, length-drop i gs))
