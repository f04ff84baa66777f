-- The refusals of the book's reader and writer, line by line. Assumes nothing.
use mathlib.Core.Path.{◌≡◌, refl, sym, ap, ◌∙◌}
use mathlib.Core.Bool.{Bool, true, false, not, cond, ◌||◌, false≢true}
use mathlib.Core.List.{List, [], ◌∷◌}
use mathlib.Core.Logic.{⊎_elim}
use Prim.Native.Nat.{ℕ}
use lib.Dec.{eqb, ltb}
use lib.ListN.{length, get_or}
use borrow.Author.Tests.{eqb-true}
use Rattle.base.proofs.Truth.{either}
use Rattle.rules.specs.Ranges.{book_header, longest_book}
use Rattle.rules.specs.Refusals.{bad_length, bad_total, bad_header, bad_count, bad_record, not_rising, ill_formed, short_buffer, short_list}
use Rattle.group.specs.Fresh.{fresh_group}
use Rattle.format.specs.Header.{length_of, beyond, total_in, ticks_in, count_in, offset_in, number_in, header_refusal, room_refusal}
use Rattle.book.specs.Read.{records_in, read_refusal, book_read, list_read}
use Rattle.records.specs.Records.{outside, carrier_of, last_of, breaks, record_refusal, first_refused, records_refusal}
use Rattle.tick.specs.Tick.{not_greater}
use Rattle.book.specs.Write.{write_refusal, book_written, buffer_written}
use Rattle.rules.specs.Refusal as book
use Rattle.records.proofs.Pass.{well_formed, none_refused}
use Rattle.demands.specs.Lines.{Refusal, at, plain, none, Line, line, first_met, each_below, Refuses}
use Rattle.demands.specs.Refusals.{record_lines, reader_lines, writer_lines}
use Rattle.demands.proofs.Lines.{any, first_each_last}

-- the book's refusal, as a refusal of these lines
abbrev told : book.Told → Refusal
told r = at r.code r.place

-- ---- one record: out of range, not greater than the one before, not well-formed

code : Bool → Bool → Bool → ℕ
code a b c = cond a bad_record (cond b not_rising (cond c ill_formed 0))

abbrev lines : Bool → Bool → Bool → ℕ → List Line
lines a b c i = line a (at bad_record i) ∷ line b (at not_rising i) ∷ line c (at ill_formed i) ∷ []

lines_met : (a b c : Bool) (i : ℕ) → any (lines a b c i) ≡ not (eqb (code a b c) 0)
unfolding any code
lines_met true b c i = refl
lines_met false true c i = refl
lines_met false false true i = refl
lines_met false false false i = refl

lines_told : (a b c : Bool) (i : ℕ) → not (eqb (code a b c) 0) ≡ true → first_met (lines a b c i) ≡ at (code a b c) i
unfolding first_met code
lines_told true b c i t = refl
lines_told false true c i t = refl
lines_told false false true i t = refl
lines_told false false false i t = absurd (false≢true t)

-- ---- the records

module _ (T : ℕ) (ws : List ℕ) where
  record_met : (i : ℕ) → any (record_lines T ws i) ≡ not (eqb (record_refusal T ws i) 0)
  unfolding record_refusal code
  record_met i = lines_met (outside T (get_or ws i 0)) (not_greater ws i) (breaks (last_of ws i (carrier_of (get_or ws i 0))) (get_or ws i 0)) i

  record_told : (i : ℕ) → not (eqb (record_refusal T ws i) 0) ≡ true → first_met (record_lines T ws i) ≡ at (record_refusal T ws i) i
  unfolding record_refusal code
  record_told i t = lines_told (outside T (get_or ws i 0)) (not_greater ws i) (breaks (last_of ws i (carrier_of (get_or ws i 0))) (get_or ws i 0)) i t

  each : first_met (each_below (record_lines T ws) (length ws))
      ≡ cond (ltb (first_refused T ws) (length ws)) (at (record_refusal T ws (first_refused T ws)) (first_refused T ws)) none
  unfolding first_refused
  each = first_each_last (record_lines T ws) (λ i. not (eqb (record_refusal T ws i) 0)) (λ i. at (record_refusal T ws i) i) record_met record_told (length ws)

  records_told : told (records_refusal T ws) ≡ first_met (each_below (record_lines T ws) (length ws))
  unfolding records_refusal
  records_told = ⊎_elim
      (λ (t : ltb (first_refused T ws) (length ws) ≡ true). rw each (simp t))
      (λ (f : ltb (first_refused T ws) (length ws) ≡ false). rw each (simp f))
      (either (ltb (first_refused T ws) (length ws)))

  -- records that aren't refused have no place
  records_none : (records_refusal T ws).code ≡ 0 → told (records_refusal T ws) ≡ none
  records_none e = ap told (none_refused T ws (well_formed T ws e))

-- ---- before the records: a refusal without a place, or none

module _ (header : ℕ) (x : book.Told) where
  abbrev after : book.Told
  after = cond (eqb header 0) x (book.alone header)

  after_none : (x.code ≡ 0 → told x ≡ none) → after.code ≡ 0 → told after ≡ none
  after_none h = ⊎_elim
      (λ (t : eqb header 0 ≡ true). simp t h)
      (λ (f : eqb header 0 ≡ false). simp f (λ (e : header ≡ 0). ap plain e))
      (either (eqb header 0))

-- "reader 20 to 23, 28"
reader_order : (a b c d e : Bool) (x : book.Told) (rest : List Line) → told x ≡ first_met rest
    → told (after (cond a bad_length (cond b bad_total (cond c bad_header (cond d bad_count (cond e short_list 0))))) x)
    ≡ first_met (line a (plain bad_length) ∷ line b (plain bad_total) ∷ line c (plain bad_header) ∷ line d (plain bad_count) ∷ line e (plain short_list) ∷ rest)
unfolding first_met
reader_order true b c d e x rest h = refl
reader_order false true c d e x rest h = refl
reader_order false false true d e x rest h = refl
reader_order false false false true e x rest h = refl
reader_order false false false false true x rest h = refl
reader_order false false false false false x rest h = h

-- "writer 22, 27"
writer_order : (a b : Bool) (x : book.Told) (rest : List Line) → told x ≡ first_met rest
    → told (after (cond a bad_header (cond b short_buffer 0)) x) ≡ first_met (line a (plain bad_header) ∷ line b (plain short_buffer) ∷ rest)
unfolding first_met
writer_order true b x rest h = refl
writer_order false true x rest h = refl
writer_order false false x rest h = h

-- ---- the reader

module _ (b : List ℕ) (room : ℕ) where
  read_told : told (read_refusal b room) ≡ first_met (reader_lines b room)
  unfolding read_refusal header_refusal
  read_told = reader_order (ltb (length b) book_header || ltb longest_book (length b)) (not (eqb (total_in b) (length b)))
      (beyond (ticks_in b) (number_in b) (count_in b) || not (eqb (offset_in b) book_header)) (not (eqb (length_of (count_in b)) (total_in b)))
      (ltb room (count_in b)) (records_refusal (ticks_in b) (records_in b)) _ (records_told (ticks_in b) (records_in b))

  read_none : (read_refusal b room).code ≡ 0 → told (read_refusal b room) ≡ none
  unfolding read_refusal
  read_none = after_none (header_refusal b room) (records_refusal (ticks_in b) (records_in b)) (records_none (ticks_in b) (records_in b))

pub reader_refuses : (b list : List ℕ) → Refuses (reader_lines b (length list)) (at (book_read b (length list)).code (book_read b (length list)).place)
    (((book_read b (length list)).group ≡ fresh_group 0) × (list_read b list ≡ list))
unfolding book_read list_read
reader_refuses b list = ⊎_elim
    (λ (t : eqb (read_refusal b (length list)).code 0 ≡ true). record {
      first = simp t (sym (read_none b (length list) (eqb-true _ _ t)) ∙ read_told b (length list));
      unchanged = simp t (λ r. absurd (r refl));
    })
    (λ (f : eqb (read_refusal b (length list)).code 0 ≡ false). record {
      first = simp f (read_told b (length list));
      unchanged = simp f (λ r. (refl, refl));
    })
    (either (eqb (read_refusal b (length list)).code 0))

-- ---- the writer

module _ (T number : ℕ) (ws : List ℕ) (room : ℕ) where
  write_told : told (write_refusal T number ws room) ≡ first_met (writer_lines T number ws room)
  unfolding write_refusal room_refusal
  write_told = writer_order (beyond T number (length ws)) (ltb room (length_of (length ws))) (records_refusal T ws) _ (records_told T ws)

  write_none : (write_refusal T number ws room).code ≡ 0 → told (write_refusal T number ws room) ≡ none
  unfolding write_refusal
  write_none = after_none (room_refusal T number (length ws) room) (records_refusal T ws) (records_none T ws)

pub writer_refuses : (T number : ℕ) (ws buffer : List ℕ)
    → Refuses (writer_lines T number ws (length buffer)) (at (book_written T number ws (length buffer)).code (book_written T number ws (length buffer)).place)
    (buffer_written T number ws buffer ≡ buffer)
unfolding book_written buffer_written
writer_refuses T number ws buffer = ⊎_elim
    (λ (t : eqb (write_refusal T number ws (length buffer)).code 0 ≡ true). record {
      first = simp t (sym (write_none T number ws (length buffer) (eqb-true _ _ t)) ∙ write_told T number ws (length buffer));
      unchanged = simp t (λ r. absurd (r refl));
    })
    (λ (f : eqb (write_refusal T number ws (length buffer)).code 0 ≡ false). record {
      first = simp f (write_told T number ws (length buffer));
      unchanged = simp f (λ r. refl);
    })
    (either (eqb (write_refusal T number ws (length buffer)).code 0))
