-- The table of refusals and its order (docs/RULES.md, sections 11.1 and 11.2), call by call: "request 1, 2, 3, 4, then 5 or 6; close 3; read and count of models 2; list 7, 2;
-- judge 10 to 14; reader 20 to 23, 28, then record by record 24, 25, 26; writer 22, 27, then the records likewise; delivery 2, 31, then granted
-- sheets by rising number 32, 33, then 34. 32 and 33 name the sheet." Beside them the spans (section 7).
use Rattle.std.specs.Prelude.{not, ◌&&◌, ◌||◌, List, [], ◌∷◌, ◌++◌, ℕ, ◌*◌, eqb, ltb, leb, length, get_or}
use Rattle.rules.specs.Kinds.{LR}
use Rattle.rules.specs.Ranges.{models, sheets, groups, ticks, events, book_header, longest_book}
use Rattle.rules.specs.Refusals.{bad_kind, bad_number, no_tick_left, second_event, already_in, not_in, bad_list, bad_group, late_now, long_model, long_sheet, bad_model, bad_sheet, bad_length, bad_total, bad_header, bad_count, bad_record, not_rising, ill_formed, short_buffer, short_list, bad_store, not_in_store, bad_entry, delivery_too_long, too_many_spans}
use Rattle.strip.specs.declared.Side.{Side}
use Rattle.strip.specs.declared.Side.TheVariants.{Model, Sheet}
use Rattle.strip.specs.Good.{good_place}
use Rattle.wire.specs.Words.{words_in}
use Rattle.loader.specs.Judge.{whole_strip}
use Rattle.span.specs.Answer.{spans_in}
use Rattle.event.specs.Carrier.{carriers, entering}
use Rattle.group.specs.Marks.{carrier_marked, carrier_in}
use Rattle.group.specs.declared.Group.{Group}
use Rattle.bits.specs.Granted.{granted}
use Rattle.store.specs.Entry.{good_entry}
use Rattle.store.specs.Store.{sheet_count, good_store}
use Rattle.parts.specs.Delivery.{granted_sheets, delivery_length}
use Rattle.delivery.specs.Delivery.{Delivery}
use Rattle.delivery.specs.Delivery as delivery
use Rattle.format.specs.Header.{length_of, beyond, total_in, ticks_in, count_in, offset_in, number_in}
use Rattle.book.specs.Read.{records_in}
use Rattle.records.specs.Records.{outside, carrier_of, last_of, breaks}
use Rattle.tick.specs.Tick.{not_greater}
use Rattle.demands.specs.Judgement.{Judgement}
use Rattle.demands.specs.Judgement as judgement
use Rattle.demands.specs.Lines.{Refusal, at, plain, none, Line, line, each_below}

-- ---- the group

abbrev pub fresh_lines : ℕ → List Line
fresh_lines number = line (leb groups number) (plain bad_group) ∷ []

abbrev pub request_lines : Group → ℕ → ℕ → List Line
request_lines g kind n =
    line (ltb LR kind) (plain bad_kind)
    ∷ line (leb (carriers kind) n) (plain bad_number)
    ∷ line (leb ticks g.closed) (plain no_tick_left)
    ∷ line (carrier_marked g kind n) (plain second_event)
    ∷ line (entering kind && carrier_in g kind n) (plain already_in)
    ∷ line (not (entering kind) && not (carrier_in g kind n)) (plain not_in)
    ∷ []

abbrev pub close_lines : Group → List Line
close_lines g = line (leb ticks g.closed) (plain no_tick_left) ∷ []

-- "model looked at first"
abbrev pub read_lines : ℕ → ℕ → List Line
read_lines m s = line (leb models m) (plain bad_number) ∷ line (leb sheets s) (plain bad_number) ∷ []

abbrev pub count_lines : ℕ → List Line
count_lines s = line (leb sheets s) (plain bad_number) ∷ []

-- of a list of n groups
abbrev pub mask_lines : ℕ → ℕ → ℕ → List Line
mask_lines n m s = line (eqb n 0 || ltb groups n) (plain bad_list) ∷ read_lines m s

-- ---- the judge

-- "not good; first bad place"
abbrev pub strip_lines : Side → ℕ → List ℕ → ℕ → List Line
strip_lines side now s number = each_below (λ i. line (not (good_place side now s i)) (at number i) ∷ []) (length s)

abbrev pub judge_lines : List ℕ → List ℕ → ℕ → List Line
judge_lines m s now =
    line (ltb ticks now) (plain late_now)
    ∷ line (ltb events (length m)) (plain long_model)
    ∷ line (ltb events (length s)) (plain long_sheet)
    ∷ (strip_lines Model now m bad_model ++ strip_lines Sheet now s bad_sheet)

-- "longer than 4,096 words, or from C not whole words"
abbrev pub bytes_lines : List ℕ → List ℕ → ℕ → List Line
bytes_lines m s now =
    line (ltb ticks now) (plain late_now)
    ∷ line (not (whole_strip (length m))) (plain long_model)
    ∷ line (not (whole_strip (length s))) (plain long_sheet)
    ∷ (strip_lines Model now (words_in m) bad_model ++ strip_lines Sheet now (words_in s) bad_sheet)

-- "10 to 14 as for the judge, then 40 if the pairs don't fit"
abbrev pub spans_lines : List ℕ → List ℕ → ℕ → ℕ → List Line
spans_lines m s now room = judge_lines m s now ++ (line (ltb room (2 * length (spans_in m s now))) (plain too_many_spans) ∷ [])

abbrev pub refused_verdict : Judgement → Refusal
refused_verdict (judgement.Said verdict) = none
refused_verdict (judgement.Refused number place) = at number place

-- ---- the book

abbrev pub record_lines : ℕ → List ℕ → ℕ → List Line
record_lines T ws i =
    line (outside T (get_or ws i 0)) (at bad_record i)
    ∷ line (not_greater ws i) (at not_rising i)
    ∷ line (breaks (last_of ws i (carrier_of (get_or ws i 0))) (get_or ws i 0)) (at ill_formed i)
    ∷ []

abbrev pub reader_lines : List ℕ → ℕ → List Line
reader_lines b room =
    line (ltb (length b) book_header || ltb longest_book (length b)) (plain bad_length)
    ∷ line (not (eqb (total_in b) (length b))) (plain bad_total)
    ∷ line (beyond (ticks_in b) (number_in b) (count_in b) || not (eqb (offset_in b) book_header)) (plain bad_header)
    ∷ line (not (eqb (length_of (count_in b)) (total_in b))) (plain bad_count)
    ∷ line (ltb room (count_in b)) (plain short_list)
    ∷ each_below (record_lines (ticks_in b) (records_in b)) (length (records_in b))

abbrev pub writer_lines : ℕ → ℕ → List ℕ → ℕ → List Line
writer_lines T number ws room =
    line (beyond T number (length ws)) (plain bad_header)
    ∷ line (ltb room (length_of (length ws))) (plain short_buffer)
    ∷ each_below (record_lines T ws) (length ws)

-- ---- a delivery

-- of one sheet: "Entries of ungranted sheets are not looked at."
abbrev pub sheet_lines : List ℕ → ℕ → List ℕ → ℕ → List Line
sheet_lines grants m store s =
    line (granted grants m s && not (ltb s (sheet_count store))) (at not_in_store s)
    ∷ line (granted grants m s && not (good_entry store s)) (at bad_entry s)
    ∷ []

abbrev pub delivery_lines : List ℕ → ℕ → List ℕ → ℕ → List Line
delivery_lines grants m store room =
    line (leb models m) (plain bad_number)
    ∷ line (not (good_store store)) (plain bad_store)
    ∷ (each_below (sheet_lines grants m store) sheets ++ (line (ltb room (delivery_length store (granted_sheets grants m))) (plain delivery_too_long) ∷ []))

abbrev pub refused_delivery : Delivery → Refusal
refused_delivery (delivery.Delivered length) = none
refused_delivery (delivery.Refused number place) = at number place
