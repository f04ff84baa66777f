-- What a delivery to a model may depend on: the model's bit of each grant word, and of the store its length, its first eight bytes, the granted entries and the granted bytes.
use Rattle.std.specs.Prelude.{◌≡◌, true, List, ℕ, ◌<◌, length, take}
use Rattle.rules.specs.Ranges.{sheets}
use Rattle.bits.specs.Granted.{granted}
use Rattle.store.specs.Store.{sheet_count}
use Rattle.store.specs.Entry.{offset, sheet_length, entry_fault}
use Rattle.parts.specs.Delivery.{sheet_bytes}

-- Two stores, and the grant words of two groups, agree there. An entry counts where the store has it, its bytes where it has no fault.
pub record Agree (grants grants' : List ℕ) (m : ℕ) (b b' : List ℕ) : Type 0 where
  pub bits : (s : ℕ) → s < sheets → granted grants m s ≡ granted grants' m s
  pub long : length b ≡ length b'
  pub header : take 8 b ≡ take 8 b'
  pub offsets : (s : ℕ) → s < sheets → granted grants m s ≡ true → s < sheet_count b → offset b s ≡ offset b' s
  pub lengths : (s : ℕ) → s < sheets → granted grants m s ≡ true → s < sheet_count b → sheet_length b s ≡ sheet_length b' s
  pub bytes : (s : ℕ) → s < sheets → granted grants m s ≡ true → entry_fault b s ≡ 0 → sheet_bytes b s ≡ sheet_bytes b' s
