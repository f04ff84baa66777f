-- What a request is answered, and what it does to the group.
use Rattle.std.specs.Prelude.{cond, List, ℕ, eqb, ltb, leb}
use Rattle.rules.specs.Kinds.{SJ, LJ, SL, LL, SA, LA, SR, LR}
use Rattle.rules.specs.Ranges.{ticks}
use Rattle.rules.specs.Refusals.{bad_kind, bad_number, no_tick_left, second_event, already_in, not_in}
use Rattle.bits.specs.Bit.{with_bit}
use Rattle.sets.specs.Set.{with}
use Rattle.event.specs.Carrier.{carriers, entering}
use Rattle.group.specs.Marks.{carrier_marked, carrier_in}
use Rattle.group.specs.declared.Group.{Group}
use Rattle.group.specs.declared.Answer.{Answer}

-- "Order: request 1, 2, 3, 4, then 5 or 6." The refusal of a request, and 0 where it is accepted:
-- kind above 7; number out of range; 1,000,000 or more ticks closed; the carrier has an event in the open tick; in already; not in
unfoldable pub request_refusal : Group → ℕ → ℕ → ℕ
request_refusal g kind n =
    cond (ltb LR kind) bad_kind
    (cond (leb (carriers kind) n) bad_number
    (cond (leb ticks g.closed) no_tick_left
    (cond (carrier_marked g kind n) second_event
    (cond (entering kind)
    (cond (carrier_in g kind n) already_in 0)
    (cond (carrier_in g kind n) 0 not_in)))))

-- the marks of one kind k after an accepted request of a kind
abbrev pub marked_word : ℕ → ℕ → ℕ → ℕ → ℕ
marked_word k word kind n = cond (eqb kind k) (with_bit word n) word

abbrev pub marked_set : ℕ → List ℕ → ℕ → ℕ → List ℕ
marked_set k words kind n = cond (eqb kind k) (with words n) words

-- "A request belongs to the open tick": the group with the carrier's mark set, and nothing else moved
unfoldable pub marked_group : Group → ℕ → ℕ → Group
marked_group g kind n = record {
  number = g.number;
  closed = g.closed;
  members = g.members;
  sj = marked_word SJ g.sj kind n;
  lj = marked_word LJ g.lj kind n;
  sl = marked_word SL g.sl kind n;
  ll = marked_word LL g.ll kind n;
  added = g.added;
  liberal = g.liberal;
  sa = marked_set SA g.sa kind n;
  la = marked_set LA g.la kind n;
  sr = marked_set SR g.sr kind n;
  lr = marked_set LR g.lr kind n;
  grants = g.grants;
}

-- "A refused call leaves the group .. unchanged."
unfoldable pub request_answer : Group → ℕ → ℕ → Answer
request_answer g kind n =
    cond (eqb (request_refusal g kind n) 0)
    (record { code = 0; group = marked_group g kind n })
    (record { code = request_refusal g kind n; group = g })
