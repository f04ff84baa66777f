-- A sheet's entry in a store: where its bytes start, and how many they are.
use Rattle.std.specs.Prelude.{ℕ, ◌+◌, ◌*◌, Bool, ◌&&◌, cond, List, leb, ltb}
use Rattle.rules.specs.Refusals.{not_in_store, bad_entry}
use Rattle.wire.specs.Word.{le32}
use Rattle.store.specs.Store.{total_length, sheet_count, bytes_start}

abbrev pub offset : List ℕ → ℕ → ℕ
offset b s = le32 b (8 + 8 * s)

abbrev pub sheet_length : List ℕ → ℕ → ℕ
sheet_length b s = le32 b (12 + 8 * s)

-- An entry is good when offset is at least 8 + 8n and the true sum offset + length, never wrapped, is at most the total.
unfoldable pub good_entry : List ℕ → ℕ → Bool
good_entry b s = leb (bytes_start b) (offset b s) && leb (offset b s + sheet_length b s) (total_length b)

-- Refusal 32: sheet number not below n. 33: entry not good. 0: neither.
unfoldable pub entry_fault : List ℕ → ℕ → ℕ
entry_fault b s = cond (ltb s (sheet_count b)) (cond (good_entry b s) 0 bad_entry) not_in_store
