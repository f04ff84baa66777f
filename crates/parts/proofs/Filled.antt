-- The buffer while the parts of a delivery are written: the parts of the granted sheets below a sheet stand behind the first two words. Assumes nothing.
use mathlib.Core.Path.{◌≡◌, refl, sym, ap, ap₂, ◌∙◌}
use mathlib.Core.Bool.{true, false}
use mathlib.Core.List.{List, [], ◌++◌, append-nil}
use Prim.Native.Nat.{ℕ, ◌+◌, ◌-◌, ◌≤◌, ◌<◌}
use native.Mathlib.Omega.{arith}
use borrow.Rule.Slice.PartMut.{put_mid}
use native.Mathlib.Nat.{le_refl}
use lib.ListN.{length, drop, length-append, length-drop, drop_of_length-le}
use lib.Seq.{drop-drop}
use Rattle.rules.specs.Ranges.{sheets}
use Rattle.wire.specs.Put.{put}
use Rattle.wire.proofs.Put.{put_none, put_front, put_next, length_put}
use Rattle.bits.specs.Granted.{granted}
use Rattle.parts.specs.Granted.{granted_below}
use Rattle.parts.specs.Delivery.{part, parts, delivery_length, granted_sheets}
use Rattle.parts.proofs.Parts.{parts_in, parts_out, parts_longer}

-- what is put at the front of a list's rest is put there in the list
pub put_rest : (d l : List ℕ) (at : ℕ) → at + length l ≤ length d → put_mid at (length d - at) d (put (drop at d) 0 l) ≡ put d at l
unfolding put
put_rest d l at room =
    let rest : put (drop at d) 0 l ≡ l ++ drop (at + length l) d = put_front (drop at d) l ∙ ap (λ (x : List ℕ). l ++ x) (simp drop-drop) in
    let none : drop (length d - at) (drop at d) ≡ [] = drop_of_length-le (drop at d) (simp length-drop (le_refl _)) in
    ap (put_mid at (length d - at) d) rest ∙ simp (none, append-nil)

module _ (grants : List ℕ) (m : ℕ) (b before : List ℕ) where
  -- where the next part goes, and what stands in the buffer
  pub record Filled (s at : ℕ) (out : List ℕ) : Type 0 where
    pub next : at ≡ delivery_length b (granted_below grants m s)
    pub filled : out ≡ put before 8 (parts b (granted_below grants m s))

  pub filled_none : Filled 0 8 before
  unfolding granted_below parts
  filled_none = record { next = refl; filled = sym (put_none before 8) }

  pub filled_out : (s at : ℕ) (out : List ℕ) → Filled s at out → granted grants m s ≡ false → Filled (s + 1) at out
  filled_out s at out so g =
      let same = sym (parts_out grants m b s g) in
      record { next = so.next ∙ ap (λ (l : List ℕ). 8 + length l) same; filled = so.filled ∙ ap (put before 8) same }

  module _ (room : delivery_length b (granted_sheets grants m) ≤ length before) where
    fits : (s : ℕ) → s ≤ sheets → delivery_length b (granted_below grants m s) ≤ length before
    fits s h = omega (arith, parts_longer grants m b s sheets h)

    pub length_filled : (s at : ℕ) (out : List ℕ) → s ≤ sheets → Filled s at out → length out ≡ length before
    length_filled s at out h so = ap length so.filled ∙ length_put before 8 (parts b (granted_below grants m s)) (fits s h)

    -- a granted sheet's part has room
    pub part_fits : (s at : ℕ) (out : List ℕ) → s < sheets → Filled s at out → granted grants m s ≡ true → at + length (part b s) ≤ length before
    part_fits s at out h so g =
        let whole : length (parts b (granted_below grants m (s + 1))) ≡ length (parts b (granted_below grants m s)) + length (part b s) =
        rw (parts_in grants m b s g, length-append) in
        omega (arith, so.next, fits (s + 1) (omega arith))

    pub filled_in : (s at after : ℕ) (out written : List ℕ) → s ≤ sheets → Filled s at out → granted grants m s ≡ true
        → after ≡ at + length (part b s) → written ≡ put out at (part b s) → Filled (s + 1) after written
    filled_in s at after out written h so g ea ew =
        let sofar = parts b (granted_below grants m s) in
        let more = sym (parts_in grants m b s g) in
        let whole : length (sofar ++ part b s) ≡ length sofar + length (part b s) = length-append sofar (part b s) in
        record {
          next = omega (arith, so.next, ap length more);
          filled = ew
              ∙ ap₂ (λ (o : List ℕ) (k : ℕ). put o k (part b s)) so.filled so.next
              ∙ put_next before 8 sofar (fits s h) (part b s)
              ∙ ap (put before 8) more;
        }
