-- Calls on one group, one after the other, on whatever numbers, stores and buffers a caller may hand in; and where a run of them stands. A request on
-- a group lent (`request_at`) is a request.
use Rattle.std.specs.Prelude.{cond, List, [], ◌∷◌, ◌++◌, ℕ, ◌+◌, eqb, ltb}
use Rattle.rules.specs.Ranges.{groups, ticks}
use Rattle.event.specs.Word.{word_of}
use Rattle.group.specs.Read.{ReadAnswer}
use Rattle.group.specs.declared.CountAnswer.{CountAnswer}
use Rattle.delivery.specs.Delivery.{Delivery}
use Rattle.book.specs.Read.{records_in}
use Rattle.format.specs.Header.{ticks_in, number_in}
use Rattle.demands.specs.Gate.{Gate}

-- a request of a kind and a number; a close; a read by a model of a sheet; how many models may read a sheet; a delivery to a model, with its
-- store and its buffer
pub data Call : Type 0 where
  request : ℕ → ℕ → Call
  close : Call
  read : ℕ → ℕ → Call
  count : ℕ → Call
  deliver : ℕ → List ℕ → List ℕ → Call

-- a refusal's number or 0, to a request or a close; a read's answer; a count's; a delivery's, and the buffer after it
pub data Answer : Type 0 where
  coded : ℕ → Answer
  shown : ReadAnswer → Answer
  counted : CountAnswer → Answer
  delivered : Delivery → List ℕ → Answer

-- Where a run stands: its group, and what the calls so far say of it, whatever the group's record says of itself: the number asked for, how many ticks
-- were closed, and the words of the accepted events, in the order of their acceptance.
pub record Run (State : Type 0) : Type 0 where
  pub group : State
  pub number : ℕ
  pub closed : ℕ
  pub events : List ℕ

module _ {State : Type 0} (G : Gate State) where
  -- "It starts fresh with its number: no ticks closed, nobody in"; above 15 it is a fresh group 0
  abbrev pub start_fresh : ℕ → Run State
  start_fresh number = record { group = (G.fresh number).group; number = cond (ltb number groups) number 0; closed = 0; events = [] }

  -- a book's group: "T ticks closed and that group's number"; what it has accepted are the book's records
  abbrev pub start_book : List ℕ → List ℕ → Run State
  start_book b list = record { group = (G.read_book b list).group; number = number_in b; closed = ticks_in b; events = records_in b }

  unfoldable pub answer_to : State → Call → Answer
  answer_to g (request kind n) = coded (G.request g kind n).code
  answer_to g close = coded (G.close g).code
  answer_to g (read m s) = shown (G.read g m s)
  answer_to g (count s) = counted (G.count g s)
  answer_to g (deliver m store out) = delivered (G.deliver g m store out) (G.delivered g m store out)

  -- after a call. "A request belongs to the open tick, which is closed ticks + 1", and is accepted when it isn't refused. A close closes one tick more,
  -- up to 1,000,000. The others take the group by value and give none back.
  unfoldable pub next : Run State → Call → Run State
  next r (request kind n) = record {
    group = (G.request r.group kind n).group;
    number = r.number;
    closed = r.closed;
    events = cond (eqb (G.request r.group kind n).code 0) (r.events ++ (word_of (r.closed + 1) kind n ∷ [])) r.events;
  }
  next r close = record {
    group = (G.close r.group).group;
    number = r.number;
    closed = cond (ltb r.closed ticks) (r.closed + 1) r.closed;
    events = r.events;
  }
  next r (read m s) = r
  next r (count s) = r
  next r (deliver m store out) = r

  unfoldable pub reach : Run State → List Call → Run State
  reach r [] = r
  reach r (c ∷ calls) = reach (next r c) calls
