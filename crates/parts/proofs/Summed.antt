-- The sums of the granted sheets below a sheet, while none of them is faulty: what a turn of the check keeps. Assumes nothing.
use mathlib.Core.Path.{◌≡◌, refl, sym, ap, ◌∙◌}
use mathlib.Core.Bool.{true, false}
use mathlib.Core.List.{List}
use Prim.Native.Nat.{ℕ, ◌+◌, ◌*◌, ◌≤◌, ◌<◌}
use native.Mathlib.Omega.{arith}
use borrow.Author.Count.{below_more}
use lib.ListN.{length, length-append}
use Rattle.base.proofs.First.{None, first_none, first_is}
use Rattle.rules.specs.Ranges.{sheets, store_bytes}
use Rattle.bits.specs.Granted.{granted}
use Rattle.store.specs.Entry.{sheet_length, entry_fault}
use Rattle.store.proofs.Store.{Good}
use Rattle.store.proofs.Entry.{sound}
use Rattle.parts.specs.Granted.{granted_below}
use Rattle.parts.specs.Fault.{faulty, first_faulty}
use Rattle.parts.specs.Delivery.{part, parts, delivery_length}
use Rattle.parts.proofs.Fault.{faulty_ungranted, faulty_not, faulty_so}
use Rattle.parts.proofs.Granted.{below_in, below_out}
use Rattle.parts.proofs.Parts.{length_part, parts_in, parts_out}

module _ (grants : List ℕ) (m : ℕ) (b : List ℕ) where
  -- below s no granted sheet is faulty; how many they are, and how long their delivery is. A sheet adds at most a store's bytes and two words, so 256 of them stay below 2^32
  pub record Sums (s count total : ℕ) : Type 0 where
    pub none : None (faulty grants m b) s
    pub counted : count ≡ length (granted_below grants m s)
    pub summed : total ≡ delivery_length b (granted_below grants m s)
    pub few : count ≤ s
    pub short : total ≤ 8 + s * (8 + store_bytes)

  pub sums_none : Sums 0 0 8
  unfolding granted_below parts
  sums_none = record { none = λ k h. absurd (omega arith); counted = refl; summed = refl; few = omega arith; short = omega arith }

  module _ (s count total : ℕ) (so : Sums s count total) where
    pub sums_out : granted grants m s ≡ false → Sums (s + 1) count total
    sums_out g =
        record {
          none = below_more _ s so.none (faulty_ungranted grants m b s g);
          counted = so.counted ∙ sym (ap length (below_out grants m s g));
          summed = so.summed ∙ sym (ap (λ (l : List ℕ). 8 + length l) (parts_out grants m b s g));
          few = omega (arith, so.few);
          short = omega (arith, so.short);
        }

    pub sums_in : Good b → granted grants m s ≡ true → entry_fault b s ≡ 0 → Sums (s + 1) (count + 1) (total + (8 + sheet_length b s))
    sums_in good g e =
        let entry = sound b s e in
        let long = length_part b s (omega (arith, entry.within, good.total)) in
        let whole : length (parts b (granted_below grants m (s + 1))) ≡ length (parts b (granted_below grants m s)) + length (part b s) =
        rw (parts_in grants m b s g, length-append) in
        let more : length (granted_below grants m (s + 1)) ≡ length (granted_below grants m s) + 1 = rw (below_in grants m s g, length-append) in
        record {
          none = below_more _ s so.none (faulty_not grants m b s g e);
          counted = omega (arith, so.counted);
          summed = omega (arith, so.summed);
          few = omega (arith, so.few);
          short = omega (arith, so.short, entry.within, good.total, good.short);
        }

    -- the look ends at the first faulty sheet
    pub sums_stop : s < sheets → granted grants m s ≡ true → (entry_fault b s ≡ 0 → ⊥) → first_faulty grants m b ≡ s
    sums_stop h g e = first_is (faulty grants m b) sheets s h so.none (faulty_so grants m b s g e)

    -- or past the last
    pub sums_end : s ≡ sheets → first_faulty grants m b ≡ s
    sums_end e = first_none (faulty grants m b) sheets (λ k h. so.none k (omega arith)) ∙ sym e
