-- No delivery is longer than two words, and for each of 256 sheets two words and a largest store's bytes: 268,437,512, which is below 2^32. Assumes nothing.
use mathlib.Core.Path.{◌≡◌}
use mathlib.Core.Bool.{true, false}
use mathlib.Core.List.{List}
use mathlib.Core.Logic.{⊎_elim}
use Prim.Native.Nat.{ℕ, zero, suc, ◌+◌, ◌*◌, ◌≤◌}
use native.Mathlib.Numerals.{add-one}
use native.Mathlib.Omega.{arith}
use Rattle.base.proofs.Truth.{either}
use Rattle.rules.specs.Ranges.{sheets, store_bytes}
use Rattle.bits.specs.Granted.{granted}
use Rattle.store.proofs.Store.{good}
use Rattle.parts.specs.Delivery.{delivery_length, granted_sheets}
use Rattle.parts.specs.Ready.{Ready}
use Rattle.parts.proofs.Fault.{fault_free}
use Rattle.parts.proofs.Summed.{Sums, sums_none, sums_out, sums_in}

module _ (grants : List ℕ) (m : ℕ) (b : List ℕ) (ready : Ready grants m b) where
  -- the sums below each sheet, as the check forms them
  sums : (k : ℕ) → k ≤ sheets → (count : ℕ) × (total : ℕ) × Sums grants m b k count total
  sums zero h = (0, 8, sums_none grants m b)
  sums (suc k) h =
      let so = sums k (omega arith) in
      ⊎_elim
      (λ (t : granted grants m k ≡ true).
      let free = fault_free grants m b k ready.sound (omega arith) t in
      (_, _, rw (add-one k) at (sums_in grants m b k so.0 so.1 so.2 (good b ready.taken) t free)))
      (λ (f : granted grants m k ≡ false). (_, _, rw (add-one k) at (sums_out grants m b k so.0 so.1 so.2 f)))
      (either (granted grants m k))

  pub delivery_longest : delivery_length b (granted_sheets grants m) ≤ 8 + sheets * (8 + store_bytes)
  delivery_longest =
      let so = (sums sheets (omega arith)).2 in
      omega (arith, so.summed, so.short)
