-- A store's first eight bytes, and when a store is taken.
use Rattle.std.specs.Prelude.{ℕ, ◌+◌, ◌*◌, Bool, ◌&&◌, List, leb, eqb, length}
use Rattle.rules.specs.Ranges.{sheets, store_bytes}
use Rattle.wire.specs.Word.{le32}

-- Store: total length, sheet count n, then n pairs (offset, length), then bytes.
abbrev pub total_length : List ℕ → ℕ
total_length b = le32 b 0

abbrev pub sheet_count : List ℕ → ℕ
sheet_count b = le32 b 4

-- 8 + 8n: where the pairs end and the bytes start
abbrev pub bytes_start : List ℕ → ℕ
bytes_start b = 8 + 8 * sheet_count b

-- Refusal 31: store below 8 or above 1,048,576 bytes, total field wrong, n above 256, or 8 + 8n above the total.
unfoldable pub good_store : List ℕ → Bool
good_store b =
    leb 8 (length b)
    && leb (length b) store_bytes
    && eqb (total_length b) (length b)
    && leb (sheet_count b) sheets
    && leb (bytes_start b) (total_length b)
