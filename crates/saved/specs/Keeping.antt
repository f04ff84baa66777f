-- The keeper's calls on its group, each followed by the keeping: the same calls as a run's, and beside the group the list of events and how many are
-- kept. Every part is the definition that the promise of a function cites.
use Rattle.std.specs.Prelude.{List, [], ◌∷◌, ℕ, length}
use Rattle.group.specs.declared.Group.{Group}
use Rattle.group.specs.Fresh.{fresh_answer}
use Rattle.group.specs.Request.{request_answer}
use Rattle.group.specs.Close.{close_answer}
use Rattle.history.specs.Run.{Move, request, close}
use Rattle.book.specs.Read.{book_read, list_read}
use Rattle.kept.specs.Kept.{open_word, records_of, started_with, requested_kept, requested_list, closed_kept}
use Rattle.kept.specs.declared.Kept.{Kept}

pub record Keeping : Type 0 where
  pub group : Group
  pub list : List ℕ
  pub kept : Kept

unfoldable pub keep_step : Move → Keeping → Keeping
keep_step (request kind number) k =
    let answer = request_answer k.group kind number in
    record {
      group = answer.group;
      list = requested_list k.list k.kept answer.code (open_word answer.group.closed kind number);
      kept = requested_kept (length k.list) k.kept answer.code;
    }
keep_step close k =
    let answer = close_answer k.group in
    record { group = answer.group; list = k.list; kept = closed_kept k.kept answer.code }

unfoldable pub keep_run : List Move → Keeping → Keeping
keep_run [] k = k
keep_run (c ∷ cs) k = keep_run cs (keep_step c k)

-- the start with a fresh group: nothing is kept, whatever the list has
abbrev pub fresh_keeping : ℕ → List ℕ → Keeping
fresh_keeping number list = record { group = (fresh_answer number).group; list = list; kept = started_with 0 }

-- the start with an accepted book: its group, its words at the front of the list, all of them kept and of closed ticks
abbrev pub book_keeping : List ℕ → List ℕ → Keeping
book_keeping b list = record { group = (book_read b (length list)).group; list = list_read b list; kept = started_with (records_of (length b)) }
