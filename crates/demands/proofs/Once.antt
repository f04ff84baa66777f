-- "Each public call's promise determines its answer and every lent byte afterwards": two answers that meet a promise are equal. Where a call is lent
-- something that it may change, an answer here is the pair of what it returns and of what it leaves there. Assumes nothing.
use mathlib.Core.Path.{◌≡◌, sym, ◌∙◌}
use mathlib.Core.List.{List}
use mathlib.Core.Bool.{Bool, cond}
use Prim.Native.Nat.{ℕ, ◌≤◌}
use lib.ListN.{length, replicate}
use denote.Ref.{Bor}
use Rattle.std.specs.Prelude.{Result, Ok, Err, ⊤}
use Rattle.group.proofs.Once.{read_once, count_once}
use Rattle.station.proofs.Once.{mask_once}
use Rattle.base.specs.HowMany.{how_many}
use Rattle.base.specs.Part.{word_at}
use Rattle.bits.specs.Bit.{width, bit, next_bit, after_word}
use Rattle.sets.specs.Set.{either, after}
use Rattle.book.specs.Read.{book_read, list_read}
use Rattle.tick.specs.Tick.{tick_part, tick_start, rising, place_from}
use Rattle.book.specs.Write.{written_in_numbers, book_written, buffer_written}
use Rattle.book.proofs.Once.{written_once}
use Rattle.book.specs.declared.BookRead.{BookRead}
use Rattle.book.specs.declared.BookWritten.{BookWritten}
use Rattle.delivery.specs.Answer.{answer, Delivers, buffer_after}
use Rattle.delivery.specs.Delivery.{delivery_told}
use Rattle.delivery.proofs.Once.{once}
use Rattle.event.specs.Word.{tick_of, kind_of, number_of}
use Rattle.format.specs.Header.{header_refusal, room_refusal}
use Rattle.formula.specs.Numbers.{answer_number, answer_value}
use Rattle.formula.specs.declared.Verdict.{Verdict}
use Rattle.crossing.specs.Delivered.{delivery_numbers, delivery_of}
use Rattle.loader.specs.Judge.{packed, packed_answer, judged_from}
use Rattle.crossing.specs.Part.{evidence_part, records_part}
use Rattle.crossing.specs.Read.{read_numbers, read_of}
use Rattle.crossing.specs.declared.numbers.Delivered.{Delivered}
use Rattle.crossing.specs.declared.numbers.Read.{Read}
use Rattle.crossing.specs.declared.part.Part.{Part}
use Rattle.gather.specs.Gather.{gathered, gathered_end}
use Rattle.event.specs.Carrier.{carriers, entering}
use Rattle.group.specs.Close.{close_answer}
use Rattle.group.specs.Count.{count_told, count_answer}
use Rattle.group.specs.Fresh.{fresh_answer}
use Rattle.group.specs.Read.{Reads, read_told, read_answer}
use Rattle.group.specs.Request.{request_refusal, request_answer}
use Rattle.close.specs.Settled.{settled_by}
use Rattle.group.specs.declared.Answer.{Answer}
use Rattle.group.specs.declared.CountAnswer.{CountAnswer}
use Rattle.group.specs.declared.Group.{Group}
use Rattle.close.specs.declared.Settled.{Settled}
use Rattle.evidence.specs.Evidence.{evidence_of, start_of}
use Rattle.judge.specs.Judge.{checked, judged_by, Judges}
use Rattle.standing.specs.Scan.{step_of, holding, told_by}
use Rattle.stepping.specs.Next.{head_of}
use Rattle.stepping.specs.declared.Head.{Head}
use Rattle.standing.specs.declared.Seen.{Seen}
use Rattle.standing.specs.declared.Standing.{Standing}
use Rattle.insert.specs.Inserted.{inserted_count, inserted_list}
use Rattle.kept.specs.Kept.{room, open_word, records_of, started_with, requested_kept, requested_list, closed_kept, closed_events}
use Rattle.kept.specs.declared.Kept.{Kept}
use Rattle.pass.specs.Pass.{begun}
use Rattle.pass.specs.declared.Pass.{Pass}
use Rattle.span.specs.Answer.{counted, spans_answer, list_after}
use Rattle.span.proofs.Once.{counted_once}
use Rattle.span.specs.declared.SpansAnswer.{SpansAnswer}
use Rattle.rules.specs.Kind.{kind_number}
use Rattle.rules.specs.declared.kind.Kind.{Kind}
use Rattle.rules.specs.Refusal.{refusal_number, refusal_place, told, alone}
use Rattle.rules.specs.declared.refusal.Refusal.{Refusal}
use Rattle.rules.proofs.Told.{told_once}
use Rattle.station.specs.Mask.{mask_told, mask_answer}
use Rattle.station.specs.declared.MaskAnswer.{MaskAnswer}
use Rattle.store.specs.Store.{good_store}
use Rattle.strip.specs.declared.Side.{Side}
use Rattle.strip.specs.Good.{first_bad}
use Rattle.text.specs.Text.{added, added_end, AddsDecimal}
use Rattle.text.proofs.Once.{one_decimal}

-- at most one thing is as promised
abbrev pub Once : (A : Type 0) → (A → Type 0) → Type 0
Once A P = (r t : A) → P r → P t → r ≡ t

-- The line above each entry names the calls whose contract it is: the entry's variables are their parameters in order, a list for what is lent, and a
-- reference where the answer's place is told too; `r` is the answer, or the answer and then what is left in each thing lent to be changed. `tests/promises`
-- compares the two texts.
pub record PromisesDetermine : Type 0 where
  -- the group
  -- Group::fresh, ferrulebee_fresh
  pub fresh : (number : ℕ) → Once Answer (λ r. r ≡ fresh_answer number)
  -- refusal::request_refusal
  pub request_refusal_lem : (g : Group) (kind n : ℕ) → Once (Result ⊤ Refusal) (λ r. told r ≡ alone (request_refusal g kind n))
  -- request::request, ferrulebee_request
  pub request : (g : Group) (kind n : ℕ) → Once Answer (λ r. r ≡ request_answer g kind n)
  -- request::take
  pub take : (g : Group) (kind n : ℕ)
      → Once (Result ⊤ Refusal × Group) (λ r. (told r.0 ≡ alone (request_answer g kind n).code) × (r.1 ≡ (request_answer g kind n).group))
  -- request::request_at, ferrulebee_request_at
  pub request_at : (g : Group) (kind n : ℕ) → Once (ℕ × Group) (λ r. (r.0 ≡ (request_answer g kind n).code) × (r.1 ≡ (request_answer g kind n).group))
  -- close::take
  pub take_close : (g : Group) → Once (Result ⊤ Refusal × Group) (λ r. (told r.0 ≡ alone (close_answer g).code) × (r.1 ≡ (close_answer g).group))
  -- close::close, ferrulebee_close
  pub close : (g : Group) → Once Answer (λ r. r ≡ close_answer g)
  -- Group::read
  pub read : (g : Group) (m s : ℕ) → Once (Result Bool Refusal) (λ r. Reads g m s (read_told r))
  -- Group::models
  pub models : (g : Group) (s : ℕ) → Once (Result ℕ Refusal) (λ r. count_told r ≡ count_answer g s)
  -- ferrulebee_models
  pub models_numbers : (g : Group) (s : ℕ) → Once CountAnswer (λ r. r ≡ count_answer g s)
  -- the station
  -- station::mask
  pub mask : (gs : List Group) (m s : ℕ) → Once (Result ℕ Refusal) (λ r. mask_told r ≡ mask_answer gs m s)
  -- ferrulebee_mask
  pub mask_numbers : (gs : List Group) (m s : ℕ) → Once MaskAnswer (λ r. r ≡ mask_answer gs m s)
  -- the judge, on words and from C, and its evidence: the same words at the same place
  -- judge::judge
  pub judge : (m s : List ℕ) (now : ℕ) → Once (Result Verdict Refusal) (Judges m s now)
  -- judge
  pub judge_of_bytes : (m s : List ℕ) (now : ℕ) → Once ℕ (λ r. r ≡ packed (judged_from m s now))
  -- loader::judged
  pub judged : (m s : List ℕ) (now : ℕ) → Once (Result Verdict Refusal) (λ r. r ≡ judged_from m s now)
  -- loader::pack
  pub pack : (a : Result Verdict (ℕ × ℕ)) → Once ℕ (λ r. r ≡ packed_answer a)
  -- evidence::evidence
  pub evidence : (m s : Bor (List ℕ)) (now : ℕ)
      → Once (List ℕ × (ℕ × ℕ)) (λ r. (r.0 ≡ evidence_of (judged_by m.now s.now now) m.now s.now) × (r.1 ≡ start_of (judged_by m.now s.now now) m s))
  -- the check of two strips, and the spans with their list
  -- judge::check::check
  pub check : (m s : List ℕ) (now : ℕ) → Once (Result ⊤ Refusal) (λ r. r ≡ checked m s now Err (Ok tt))
  -- span::spans
  pub spans : (m s : List ℕ) (now : ℕ) (list : List ℕ)
      → Once (Result ℕ Refusal × List ℕ) (λ r. (counted r.0 ≡ spans_answer m s now (length list)) × (r.1 ≡ list_after m s now list))
  -- ferrulebee_spans
  pub spans_numbers : (m s : List ℕ) (now : ℕ) (list : List ℕ)
      → Once (SpansAnswer × List ℕ) (λ r. (r.0 ≡ spans_answer m s now (length list)) × (r.1 ≡ list_after m s now list))
  -- when a store is taken; a delivery, with its buffer: by grants, and by a group's
  -- store::good_store
  pub good_store_lem : (b : List ℕ) → Once Bool (λ r. r ≡ good_store b)
  -- delivery::granted::deliver
  pub delivery : (grants : List ℕ) (m : ℕ) (store out : List ℕ)
      → Once (Result ℕ Refusal × List ℕ) (λ r. Delivers grants m store (length out) (delivery_told r.0) × (r.1 ≡ buffer_after grants m store out))
  -- delivery::deliver
  pub group_delivery : (g : Group) (m : ℕ) (store out : List ℕ)
      → Once (Result ℕ Refusal × List ℕ) (λ r. Delivers g.grants m store (length out) (delivery_told r.0) × (r.1 ≡ buffer_after g.grants m store out))
  -- the book: reader with its word list, writer with its buffer, and the records of one tick: the same words at the same place
  -- book::read, ferrulebee_book_read
  pub reader : (b list : List ℕ) → Once (BookRead × List ℕ) (λ r. (r.0 ≡ book_read b (length list)) × (r.1 ≡ list_read b list))
  -- book::write
  pub write : (T n : ℕ) (ws buffer : List ℕ)
      → Once (Result ℕ Refusal × List ℕ) (λ r. (written_in_numbers r.0 ≡ book_written T n ws (length buffer)) × (r.1 ≡ buffer_written T n ws buffer))
  -- ferrulebee_book_write
  pub writer : (T n : ℕ) (ws buffer : List ℕ)
      → Once (BookWritten × List ℕ) (λ r. (r.0 ≡ book_written T n ws (length buffer)) × (r.1 ≡ buffer_written T n ws buffer))
  -- format::header_refusal
  pub header_refusal_lem : (b : List ℕ) (words : ℕ) → Once (Result ⊤ Refusal) (λ r. told r ≡ alone (header_refusal b words))
  -- format::room_refusal
  pub room_refusal_lem : (T n count long : ℕ) → Once (Result ⊤ Refusal) (λ r. told r ≡ alone (room_refusal T n count long))
  -- tick::tick_part
  pub tick_part_lem : (ws : Bor (List ℕ)) (t : ℕ)
      → Once (List ℕ × (ℕ × ℕ)) (λ r. (r.0 ≡ tick_part ws.now t) × (r.1 ≡ word_at ws (tick_start ws.now t)))
  -- strips: the first bad place, and a carrier's strip gathered into a list
  -- strip::first_bad
  pub first_bad_lem : (side : Side) (now : ℕ) (s : List ℕ) → Once ℕ (λ r. r ≡ first_bad side now s)
  -- gather::gather
  pub gather : (words : List ℕ) (side : Side) (n : ℕ) (out : List ℕ) (at : ℕ)
      → Once (ℕ × List ℕ) (λ r. (r.0 ≡ gathered_end words side n out at) × (r.1 ≡ gathered words side n out at))
  -- from C, in numbers: a read, a delivery with its buffer, the records of one tick, the evidence
  -- crossing::numbers::of_read
  pub of_read : (a : Result Bool ℕ) → Once Read (λ r. r ≡ read_numbers (read_of a))
  -- crossing::numbers::of_delivery
  pub of_delivery : (d : Result ℕ (ℕ × ℕ)) → Once Delivered (λ r. r ≡ delivery_numbers (delivery_of d))
  -- ferrulebee_read
  pub read_numbers_lem : (g : Group) (m s : ℕ) → Once Read (λ r. r ≡ read_numbers (read_answer g m s))
  -- ferrulebee_deliver
  pub delivery_numbers_lem : (g : Group) (m : ℕ) (store out : List ℕ)
      → Once (Delivered × List ℕ) (λ r. (r.0 ≡ delivery_numbers (answer g.grants m store (length out))) × (r.1 ≡ buffer_after g.grants m store out))
  -- crossing::part::records, ferrulebee_tick_part
  pub records_numbers : (ws : List ℕ) (t : ℕ) → Once Part (λ r. r ≡ records_part ws t)
  -- crossing::part::evidence, ferrulebee_evidence
  pub evidence_numbers : (m s : List ℕ) (now : ℕ) → Once Part (λ r. r ≡ evidence_part (judged_by m s now) m s)
  -- what calls are made of: bits and sets, a kind's carriers, all of a close but the grants, a list that rises and a place in it
  -- bits::after_word
  pub after_word_lem : (was gone come : ℕ) → Once ℕ (λ r. r ≡ after_word was gone come)
  -- bits::next_bit
  pub next_bit_lem : (w from : ℕ) → Once ℕ (λ r. r ≡ next_bit w from)
  -- bits::choose
  pub choose : (when : Bool) (a b : ℕ) → Once ℕ (λ r. r ≡ cond when a b)
  -- bits::count
  pub count_bits : (w : ℕ) → Once ℕ (λ r. r ≡ how_many (bit w) width)
  -- sets::either
  pub set_either : (xs ys : List ℕ) → Once (List ℕ) (λ r. r ≡ either 4 xs ys)
  -- sets::after
  pub set_after : (was gone come : List ℕ) → Once (List ℕ) (λ r. r ≡ after 4 was gone come)
  -- Refusal::number
  pub refusal_number_lem : (refusal : Refusal) → Once ℕ (λ r. r ≡ refusal_number refusal)
  -- Refusal::place
  pub refusal_place_lem : (refusal : Refusal) → Once ℕ (λ r. r ≡ refusal_place refusal)
  -- Kind::number
  pub kind_number_lem : (kind : Kind) → Once ℕ (λ r. r ≡ kind_number kind)
  -- event::carriers_of
  pub carriers_of : (kind : ℕ) → Once ℕ (λ r. r ≡ carriers kind)
  -- event::is_entering
  pub is_entering : (kind : ℕ) → Once Bool (λ r. r ≡ entering kind)
  -- close::settle
  pub settle : (g : Group) → Once Settled (λ r. r ≡ settled_by g)
  -- tick::is_rising
  pub is_rising : (ws : List ℕ) → Once Bool (λ r. r ≡ rising ws)
  -- tick::place_from
  pub place_from_lem : (ws : List ℕ) (t : ℕ) → Once ℕ (λ r. (r ≡ place_from ws t) × (r ≤ length ws))
  -- the pass over two strips: before the first tick, the next event, a tick's events taken, what the standing tells
  -- pass::begin
  pub begin : (m s : List ℕ) → Once Pass (λ r. r ≡ begun m s)
  -- stepping::next_event
  pub next_event : (s : List ℕ) (i : ℕ) → Once Head (λ r. r ≡ head_of s i)
  -- stepping::step
  pub scan_step : (seen : Seen) (t model sheet : ℕ) → Once Seen (λ r. r ≡ step_of seen t model sheet)
  -- stepping::holds
  pub holds : (x : Standing) → Once Bool (λ r. r ≡ holding x)
  -- stepping::told
  pub told : (x : Standing) → Once Verdict (λ r. r ≡ told_by x)
  -- the accepted events as the keeper keeps them: a list for them, an event's word, how many records a book has, a start, and after each call
  -- kept::space
  pub space : Once (List ℕ) (λ r. r ≡ replicate room 0)
  -- kept::word
  pub open_word_lem : (closed kind number : ℕ) → Once ℕ (λ r. r ≡ open_word closed kind number)
  -- kept::records
  pub records : (n : ℕ) → Once ℕ (λ r. r ≡ records_of n)
  -- kept::started
  pub started : (n : ℕ) → Once Kept (λ r. r ≡ started_with n)
  -- insert::insert
  pub insert : (events : List ℕ) (n w : ℕ) → Once (ℕ × List ℕ) (λ r. (r.0 ≡ inserted_count (length events) n) × (r.1 ≡ inserted_list events n w))
  -- kept::after_request
  pub after_request : (events : List ℕ) (kept : Kept) (code w : ℕ)
      → Once (Kept × List ℕ) (λ r. (r.0 ≡ requested_kept (length events) kept code) × (r.1 ≡ requested_list events kept code w))
  -- kept::after_close
  pub after_close : (kept : Kept) (code : ℕ) → Once Kept (λ r. r ≡ closed_kept kept code)
  -- kept::of_closed
  pub of_closed : (events : Bor (List ℕ)) (kept : Kept)
      → Once (List ℕ × (ℕ × ℕ)) (λ r. (r.0 ≡ closed_events events.now kept) × (r.1 ≡ word_at events 0))
  -- the numbers of a verdict
  -- formula::number
  pub number : (a : Result Verdict (ℕ × ℕ)) → Once ℕ (λ r. r ≡ answer_number a)
  -- formula::value
  pub value : (a : Result Verdict (ℕ × ℕ)) → Once ℕ (λ r. r ≡ answer_value a)
  -- text and decimal digits added to a buffer
  -- text::add
  pub text : (out : List ℕ) (at : ℕ) (bytes : List ℕ) → Once (ℕ × List ℕ) (λ r. (r.0 ≡ added_end out at bytes) × (r.1 ≡ added out at bytes))
  -- text::add_decimal
  pub decimal : (out : List ℕ) (at n : ℕ) → Once (ℕ × List ℕ) (λ r. AddsDecimal out at n r.1 r.0)
  -- the parts of an event word
  -- event::tick
  pub word_tick : (w : ℕ) → Once ℕ (λ r. r ≡ tick_of w)
  -- event::kind
  pub word_kind : (w : ℕ) → Once ℕ (λ r. r ≡ kind_of w)
  -- event::number
  pub word_number : (w : ℕ) → Once ℕ (λ r. r ≡ number_of w)

-- what equals a definition
module _ {A : Type 0} where
  one : (definition : A) → Once A (λ r. r ≡ definition)
  one d r t p q = p ∙ sym q

-- what equals two, part by part
module _ {A B : Type 0} where
  two : (a : A) (b : B) → Once (A × B) (λ r. (r.0 ≡ a) × (r.1 ≡ b))
  two a b r t p q = λ i. ((p.0 ∙ sym q.0) i, (p.1 ∙ sym q.1) i)

once_delivered : (grants : List ℕ) (m : ℕ) (store out : List ℕ)
    → Once (Result ℕ Refusal × List ℕ) (λ r. Delivers grants m store (length out) (delivery_told r.0) × (r.1 ≡ buffer_after grants m store out))
once_delivered grants m store out r t p q = let e = once grants m store out r.0 t.0 r.1 t.1 p q in λ i. (e.0 i, e.1 i)

pub promises_determine : PromisesDetermine
promises_determine = record {
  fresh = λ number. one (fresh_answer number);
  request_refusal_lem = λ g kind n r t p q. told_once (p ∙ sym q);
  request = λ g kind n. one (request_answer g kind n);
  take = λ g kind n r t p q i. (told_once (p.0 ∙ sym q.0) i, (p.1 ∙ sym q.1) i);
  request_at = λ g kind n. two (request_answer g kind n).code (request_answer g kind n).group;
  take_close = λ g r t p q i. (told_once (p.0 ∙ sym q.0) i, (p.1 ∙ sym q.1) i);
  close = λ g. one (close_answer g);
  read = read_once;
  models = count_once;
  models_numbers = λ g s. one (count_answer g s);
  mask = mask_once;
  mask_numbers = λ gs m s. one (mask_answer gs m s);
  judge = λ m s now r t p q. p.answer ∙ sym q.answer;
  judge_of_bytes = λ m s now. one (packed (judged_from m s now));
  judged = λ m s now. one (judged_from m s now);
  pack = λ answer. one (packed_answer answer);
  evidence = λ m s now. two (evidence_of (judged_by m.now s.now now) m.now s.now) (start_of (judged_by m.now s.now now) m s);
  check = λ m s now. one (checked m s now Err (Ok tt));
  spans = λ m s now list r t p q. let e = counted_once r.0 t.0 (p.0 ∙ sym q.0) in let f = p.1 ∙ sym q.1 in λ i. (e i, f i);
  spans_numbers = λ m s now list. two (spans_answer m s now (length list)) (list_after m s now list);
  good_store_lem = λ b. one (good_store b);
  delivery = once_delivered;
  group_delivery = λ g. once_delivered g.grants;
  reader = λ b list. two (book_read b (length list)) (list_read b list);
  write = λ T n ws buffer r t p q. λ i. (written_once r.0 t.0 (p.0 ∙ sym q.0) i, (p.1 ∙ sym q.1) i);
  writer = λ T n ws buffer. two (book_written T n ws (length buffer)) (buffer_written T n ws buffer);
  header_refusal_lem = λ b words r t p q. told_once (p ∙ sym q);
  room_refusal_lem = λ T n count long r t p q. told_once (p ∙ sym q);
  tick_part_lem = λ ws t. two (tick_part ws.now t) (word_at ws (tick_start ws.now t));
  first_bad_lem = λ side now s. one (first_bad side now s);
  gather = λ words side n out at. two (gathered_end words side n out at) (gathered words side n out at);
  of_read = λ a. one (read_numbers (read_of a));
  of_delivery = λ d. one (delivery_numbers (delivery_of d));
  read_numbers_lem = λ g m s. one (read_numbers (read_answer g m s));
  delivery_numbers_lem = λ g m store out. two (delivery_numbers (answer g.grants m store (length out))) (buffer_after g.grants m store out);
  records_numbers = λ ws t. one (records_part ws t);
  evidence_numbers = λ m s now. one (evidence_part (judged_by m s now) m s);
  after_word_lem = λ was gone come. one (after_word was gone come);
  next_bit_lem = λ w from. one (next_bit w from);
  choose = λ when a b. one (cond when a b);
  count_bits = λ w. one (how_many (bit w) width);
  set_either = λ xs ys. one (either 4 xs ys);
  set_after = λ was gone come. one (after 4 was gone come);
  refusal_number_lem = λ refusal. one (refusal_number refusal);
  refusal_place_lem = λ refusal. one (refusal_place refusal);
  kind_number_lem = λ kind. one (kind_number kind);
  carriers_of = λ kind. one (carriers kind);
  is_entering = λ kind. one (entering kind);
  settle = λ g. one (settled_by g);
  is_rising = λ ws. one (rising ws);
  place_from_lem = λ ws t r u p q. p.0 ∙ sym q.0;
  begin = λ m s. one (begun m s);
  next_event = λ s i. one (head_of s i);
  scan_step = λ seen t model sheet. one (step_of seen t model sheet);
  holds = λ x. one (holding x);
  told = λ x. one (told_by x);
  space = one (replicate room 0);
  open_word_lem = λ closed kind number. one (open_word closed kind number);
  records = λ n. one (records_of n);
  started = λ n. one (started_with n);
  insert = λ events n w. two (inserted_count (length events) n) (inserted_list events n w);
  after_request = λ events kept code w. two (requested_kept (length events) kept code) (requested_list events kept code w);
  after_close = λ kept code. one (closed_kept kept code);
  of_closed = λ events kept. two (closed_events events.now kept) (word_at events 0);
  number = λ answer. one (answer_number answer);
  value = λ answer. one (answer_value answer);
  text = λ out at bytes. two (added_end out at bytes) (added out at bytes);
  decimal = λ out at n r t p q. let e = one_decimal out at n r.1 t.1 r.0 t.0 p q in λ i. (e.1 i, e.0 i);
  word_tick = λ w. one (tick_of w);
  word_kind = λ w. one (kind_of w);
  word_number = λ w. one (number_of w);
}
