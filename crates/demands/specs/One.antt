-- Demand 1. "Every call answers on every input. Out-of-range numbers, broken event books, ill-formed histories, bad sheet stores and short buffers
-- are refused by a fixed number, and a refusal changes no group and no byte of a lent buffer."
--
-- That every call answers is what a promise without a `requires` says; no public call has one. Here, for each call of a gate over the record that a
-- group is: which refusal it gives, by the lines of the rules in their order (Refusals.antt), and what it leaves as it was.
use Rattle.std.specs.Prelude.{◌≡◌, false, cond, List, [], ◌∷◌, ◌⊎◌, ℕ, ◌+◌, ◌*◌, ◌^◌, eqb, length, get_or}
use Rattle.rules.specs.Refusals.{bad_kind, bad_number, no_tick_left, second_event, already_in, not_in, bad_list, bad_group, late_now, long_model, long_sheet, bad_model, bad_sheet, bad_length, bad_total, bad_header, bad_count, bad_record, not_rising, ill_formed, short_buffer, short_list, bad_store, not_in_store, bad_entry, delivery_too_long, too_many_spans}
use Rattle.wire.specs.Words.{words_in}
use Rattle.group.specs.Fresh.{fresh_group}
use Rattle.group.specs.Read.{read_number, grant_of}
use Rattle.group.specs.declared.Group.{Group}
use Rattle.delivery.specs.Delivery.{Delivered}
use Rattle.demands.specs.Gate.{Gate}
use Rattle.demands.specs.Judgement.{packed_judgement}
use Rattle.demands.specs.Lines.{at, none, plain, Line, unmet, first_met, Met, NoneMet, Refuses}
use Rattle.demands.specs.Refusals.{fresh_lines, request_lines, close_lines, read_lines, count_lines, mask_lines, judge_lines, bytes_lines, spans_lines, refused_verdict, reader_lines, writer_lines, delivery_lines, refused_delivery}

pub record DemandOne (G : Gate Group) : Type 0 where
  -- the numbers of the table
  pub numbers : bad_kind ∷ bad_number ∷ no_tick_left ∷ second_event ∷ already_in ∷ not_in ∷ bad_list ∷ bad_group ∷ late_now ∷ long_model ∷ long_sheet ∷ bad_model
      ∷ bad_sheet ∷ bad_length ∷ bad_total ∷ bad_header ∷ bad_count ∷ bad_record ∷ not_rising ∷ ill_formed ∷ short_buffer ∷ short_list ∷ bad_store ∷ not_in_store ∷ bad_entry ∷ delivery_too_long ∷ too_many_spans ∷ []
      ≡ 1 ∷ 2 ∷ 3 ∷ 4 ∷ 5 ∷ 6 ∷ 7 ∷ 9 ∷ 10 ∷ 11 ∷ 12 ∷ 13 ∷ 14 ∷ 20 ∷ 21 ∷ 22 ∷ 23 ∷ 24 ∷ 25 ∷ 26 ∷ 27 ∷ 28 ∷ 31 ∷ 32 ∷ 33 ∷ 34 ∷ 40 ∷ []
  -- "Each is given exactly when its line is met and no earlier one is": what the first line met is, for any lines
  pub given : (lines : List Line) (i : ℕ) → Met lines i → first_met lines ≡ (get_or lines i unmet).refusal
  pub nothing : (lines : List Line) → NoneMet lines → first_met lines ≡ none
  pub one_of_them : (lines : List Line) → ((i : ℕ) × Met lines i) ⊎ NoneMet lines
  -- a refused fresh group is group 0
  pub fresh : (number : ℕ) → let a = G.fresh number in Refuses (fresh_lines number) (at a.code a.place) (a.group ≡ fresh_group 0)
  -- a refused request or close leaves the group
  pub request : (g : Group) (kind n : ℕ) → let a = G.request g kind n in Refuses (request_lines g kind n) (at a.code a.place) (a.group ≡ g)
  pub close : (g : Group) → let a = G.close g in Refuses (close_lines g) (at a.code a.place) (a.group ≡ g)
  -- a refused read, count or list of groups has no grant, no model, no position
  pub read : (g : Group) (m s : ℕ) → Refuses (read_lines m s) (plain (read_number (G.read g m s))) (grant_of (G.read g m s) ≡ false)
  pub count : (g : Group) (s : ℕ) → Refuses (count_lines s) (plain (G.count g s).code) ((G.count g s).count ≡ 0)
  pub mask : (gs : List Group) (m s : ℕ) → Refuses (mask_lines (length gs) m s) (plain (G.mask gs m s).code) ((G.mask gs m s).mask ≡ 0)
  -- a refused judgement has no evidence; from C it is the number with its place, and else the judge's verdict on the words
  pub judge : (m s : List ℕ) (now : ℕ) → Refuses (judge_lines m s now) (refused_verdict (G.judge m s now)) (G.evidence m s now ≡ [])
  pub judge_of_bytes : (m s : List ℕ) (now : ℕ) → let refusal = first_met (bytes_lines m s now) in
      G.judge_bytes m s now ≡ cond (eqb refusal.number 0) (packed_judgement (G.judge (words_in m) (words_in s) now)) (refusal.number * 2 ^ 32 + refusal.place)
  -- refused spans leave every number of the list
  pub spans : (m s : List ℕ) (now : ℕ) (list : List ℕ) → let a = G.spans m s now list in
      Refuses (spans_lines m s now (length list)) (at a.code a.place) (G.spans_left m s now list ≡ list)
  -- "a refused book yields a fresh group 0", and leaves the word list; a refused writing leaves every byte of the buffer
  pub reader : (b list : List ℕ) → let a = G.read_book b list in
      Refuses (reader_lines b (length list)) (at a.code a.place) ((a.group ≡ fresh_group 0) × (G.words_left b list ≡ list))
  pub writer : (T number : ℕ) (ws buffer : List ℕ) → let a = G.write_book T number ws buffer in
      Refuses (writer_lines T number ws (length buffer)) (at a.code a.place) (G.book_left T number ws buffer ≡ buffer)
  -- a refused delivery leaves every byte of the buffer; one that no line refuses is delivered
  pub delivery : (g : Group) (m : ℕ) (store out : List ℕ)
      → Refuses (delivery_lines g.grants m store (length out)) (refused_delivery (G.deliver g m store out)) (G.delivered g m store out ≡ out)
  pub delivers : (g : Group) (m : ℕ) (store out : List ℕ) → first_met (delivery_lines g.grants m store (length out)) ≡ none
      → (n : ℕ) × (G.deliver g m store out ≡ Delivered n)
