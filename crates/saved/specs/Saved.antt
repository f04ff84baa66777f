-- What is saved, and what it is for it to be right.
use Rattle.std.specs.Prelude.{◌≡◌, true, List, ℕ, ◌≤◌, ◌<◌, eqb, leb, length, take}
use Rattle.rules.specs.Ranges.{events}
use Rattle.rules.specs.Refusals.{bad_header}
use Rattle.event.specs.Word.{tick_of}
use Rattle.history.specs.Run.{Reached}
use Rattle.base.specs.Keep.{keep}
use Rattle.book.specs.Book.{Holdable}
use Rattle.book.specs.Read.{records_in, book_read}
use Rattle.tick.specs.Tick.{rising}
use Rattle.book.specs.Write.{book_written}
use Rattle.kept.specs.Kept.{room, closed_events}
use Rattle.saved.specs.Keeping.{Keeping}

-- the words that are kept, of the open tick too
abbrev pub kept_of : Keeping → List ℕ
kept_of k = take k.kept.count k.list

-- the words that a save hands to the writer: the first of them
abbrev pub saved_of : Keeping → List ℕ
saved_of k = closed_events k.list k.kept

-- the events of the ticks up to T, in their order
abbrev pub up_to : ℕ → List ℕ → List ℕ
up_to T ws = keep (λ w. leb (tick_of w) T) ws

-- how often a word stands in a list
abbrev pub how_often : ℕ → List ℕ → ℕ
how_often w ws = length (keep (λ v. eqb v w) ws)

-- the words are these events in book order: each word is greater than the one before, and stands there as often as among the events: once, or not
pub record InBookOrder (events ws : List ℕ) : Type 0 where
  pub rises : rising ws ≡ true
  pub each : (w : ℕ) → how_often w ws ≡ how_often w events

-- what an accepted book reaches: its group, and its records as the events accepted so far
abbrev pub book_reached : List ℕ → List ℕ → Reached
book_reached b list = record { group = (book_read b (length list)).group; events = records_in b }

-- the events accepted in the ticks that are closed
abbrev pub closed_ones : Reached → List ℕ
closed_ones r = up_to r.group.closed r.events

-- what the keeper holds beside what its calls reach: the same group; the accepted events in book order, where its list has room for them; and of
-- those of closed ticks, where a book can hold as many, it hands exactly these to the writer, in book order, and they are well-formed; where there are
-- more, the writer refuses what it is handed by 22. The list stays long enough for the next start.
pub record Saves (r : Reached) (k : Keeping) : Type 0 where
  pub group : k.group ≡ r.group
  pub all : length r.events ≤ room → InBookOrder r.events (kept_of k)
  pub these : length (closed_ones r) ≤ events → InBookOrder (closed_ones r) (saved_of k)
  pub holds : length (closed_ones r) ≤ events → Holdable r.group.closed r.group.number (saved_of k)
  pub too_many : events < length (closed_ones r) → (space : ℕ) → (book_written r.group.closed r.group.number (saved_of k) space).code ≡ bad_header
  pub long : room ≤ length k.list
