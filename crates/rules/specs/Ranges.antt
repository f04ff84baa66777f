-- The ranges.
use Rattle.std.specs.Prelude.{ℕ}

-- models, sheets and groups are numbered from 0, below these
abbrev pub models : ℕ
models = 64

abbrev pub sheets : ℕ
sheets = 256

abbrev pub groups : ℕ
groups = 16

-- ticks count from 1 up to this
abbrev pub ticks : ℕ
ticks = 1000000

-- the most events in a strip, and records in a book
abbrev pub events : ℕ
events = 4096

-- the bytes of a book's header, which is the offset of its records, and of the longest book
abbrev pub book_header : ℕ
book_header = 20

abbrev pub longest_book : ℕ
longest_book = 16404

-- the most bytes in a store
abbrev pub store_bytes : ℕ
store_bytes = 1048576
