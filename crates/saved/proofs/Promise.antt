-- What the keeper saves. Each statement stands under its sentence. Assumes nothing.
use mathlib.Core.Path.{◌≡◌, sym, ap, ◌∙◌}
use mathlib.Core.Bool.{true, false}
use mathlib.Core.List.{List, [], ◌∷◌, ◌++◌}
use mathlib.Core.Logic.{⊎_elim}
use Prim.Native.Nat.{ℕ, ◌+◌, ◌≤◌, ◌<◌}
use native.Mathlib.Omega.{arith}
use lib.Dec.{eqb, leb, ltb}
use lib.ListN.{length, get_or, take, length-take}
use lib.Seq.{take_all, get_or-take}
use borrow.Author.Tests.{leb-true, leb-false, lt-ltb}
use Rattle.base.proofs.Truth.{either}
use Rattle.rules.specs.Ranges.{ticks, events, groups}
use Rattle.rules.specs.Refusals.{bad_header}
use Rattle.event.specs.Word.{tick_of}
use Rattle.group.specs.Fresh.{fresh_group, fresh_answer}
use Rattle.group.proofs.Close.{close_cases, closed_number}
use Rattle.group.proofs.Request.{request_keeps}
use Rattle.history.specs.Run.{Move, request, close, Reached, step, run, fresh, reached}
use Rattle.history.proofs.Agreed.{reached_agrees}
use Rattle.base.proofs.Keep.{kept}
use Rattle.history.proofs.Runs.{reached_append}
use Rattle.format.specs.Header.{length_of, ticks_in, number_in, room_refusal}
use Rattle.replay.specs.Calls.{book_calls}
use Rattle.book.specs.Read.{records_in, book_read}
use Rattle.records.specs.Records.{WellFormedRecords}
use Rattle.records.proofs.Pass.{formed_rises}
use Rattle.book.specs.Write.{write_refusal, book_written, buffer_written}
use Rattle.book.proofs.Accepted.{good_write}
use Rattle.book.proofs.Promise.{ReadAsWritten, write_then_read}
use Rattle.kept.specs.Kept.{room}
use Rattle.saved.specs.Keeping.{Keeping, keep_run, fresh_keeping, book_keeping}
use Rattle.saved.specs.Saved.{kept_of, saved_of, up_to, book_reached, closed_ones, Saves}
use Rattle.saved.proofs.Formed.{formed_front}
use Rattle.saved.proofs.Order.{length_ordered, passing_ordered, each_ordered}
use Rattle.saved.proofs.Steps.{Tied, ordered, run_tied, fresh_tied}
use Rattle.saved.proofs.Loaded.{book_reached_lem, book_tied}

-- ---- the number

-- a group's number is in range whatever is called
run_number : (calls : List Move) (r : Reached) → r.group.number < groups → (run calls r).group.number < groups
unfolding run step
run_number [] r h = h
run_number (request kind n ∷ calls) r h = run_number calls (step (request kind n) r) (rw (request_keeps r.group kind n).number h)
run_number (close ∷ calls) r h = run_number calls (step close r) (close_cases r.group (λ x. x.number < groups) h (λ l. rw (closed_number r.group) h))

fresh_number : (number : ℕ) → (fresh_answer number).group.number < groups
unfolding fresh_answer fresh_group
fresh_number number = ⊎_elim
    (λ (t : leb groups number ≡ true). simp t (omega arith))
    (λ (f : leb groups number ≡ false). simp f (leb-false _ _ f))
    (either (leb groups number))

-- ---- what is saved

-- more words than a book can hold are refused by 22
many_refused : (T number : ℕ) (ws : List ℕ) (space : ℕ) → events < length ws → (book_written T number ws space).code ≡ bad_header
unfolding book_written write_refusal room_refusal
many_refused T number ws space h = ⊎_elim
    (λ (t : ltb ticks T ≡ true). simp t)
    (λ (f : ltb ticks T ≡ false). simp (f, lt-ltb events (length ws) h))
    (either (ltb ticks T))

module _ (number : ℕ) (calls : List Move) (k : Keeping) (N : ℕ) (enough : room ≤ N) (t : Tied N (reached number calls) k) where
  abbrev r : Reached
  r = reached number calls

  abbrev T : ℕ
  T = r.group.closed

  -- the accepted events of closed ticks in book order: as many as there are
  abbrev these : List ℕ
  these = up_to T (ordered r)

  as_many : length these ≡ length (closed_ones r)
  as_many = passing_ordered (λ w. leb (tick_of w) T) r.events

  these_short : length these ≤ length (ordered r)
  these_short = let l = length-take (length these) (ordered r) in omega (arith, ap length t.book.front)

  these_formed : WellFormedRecords T these
  these_formed =
      let f = t.book.front in
      rw (← f) (formed_front T (T + 1) (ordered r) (length these) these_short
      (λ i h. leb-true _ _
      (ap (λ (w : ℕ). leb (tick_of w) T) (sym (get_or-take (length these) (ordered r) i 0 h) ∙ ap (λ (x : List ℕ). get_or x i 0) f)
      ∙ kept (λ w. leb (tick_of w) T) (ordered r) i h))
      t.book.formed)

  kept_are : length r.events ≤ room → kept_of k ≡ ordered r
  kept_are h =
      let l : length (ordered r) ≤ N = omega (arith, length_ordered r.events) in
      ap (λ (n : ℕ). take n k.list) (t.follows.all.held l) ∙ t.follows.all.words l

  saved_are : length these ≤ N → saved_of k ≡ these
  saved_are h = ap (λ (n : ℕ). take n k.list) (t.follows.closed.held h) ∙ t.follows.closed.words h

  saved_long : events < length these → events < length (saved_of k)
  saved_long h = ⊎_elim
      (λ (y : leb (length these) N ≡ true). rw (saved_are (leb-true _ _ y)) h)
      (λ (f : leb (length these) N ≡ false).
      let c = t.follows.closed.full (leb-false _ _ f) in
      let l = t.follows.long in
      let whole : saved_of k ≡ k.list = take_all k.kept.closed k.list (omega arith) in
      rw whole (omega arith))
      (either (leb (length these) N))

  tied_saves : Saves r k
  tied_saves =
      let m = as_many in
      record {
        group = t.group;
        all = λ h. rw (kept_are h) (record { rises = formed_rises (T + 1) (ordered r) t.book.formed; each = λ w. passing_ordered (λ v. eqb v w) r.events });
        these = λ h. rw (saved_are (omega arith)) (record { rises = formed_rises T these these_formed; each = each_ordered T r.events });
        holds = λ h. rw (saved_are (omega arith)) (record {
          time = (reached_agrees number calls).limit;
          group = run_number calls (fresh number) (fresh_number number);
          few = omega arith;
          formed = these_formed;
        });
        too_many = λ h space. many_refused T r.group.number (saved_of k) space (saved_long (omega arith));
        long = omega (arith, t.follows.long);
      }

-- ---- 1. From a fresh group.

-- After any calls, refused ones too, the keeper holds the group that they reach and saves the accepted events of its closed ticks.
pub fresh_saves : (number : ℕ) (calls : List Move) (list : List ℕ) → room ≤ length list
    → Saves (reached number calls) (keep_run calls (fresh_keeping number list))
fresh_saves number calls list enough =
    tied_saves number calls (keep_run calls (fresh_keeping number list)) (length list) enough
    (run_tied (length list) calls (fresh number) (fresh_keeping number list) (fresh_tied number list))

-- ---- 2. From an accepted book.

-- The same after any calls on the group of an accepted book: its records are events of closed ticks, and what is accepted comes after them.
pub book_saves : (b list : List ℕ) → (book_read b (length list)).code ≡ 0 → (calls : List Move) → room ≤ length list
    → Saves (run calls (book_reached b list)) (keep_run calls (book_keeping b list))
book_saves b list e calls enough =
    let before = book_calls (records_in b) (ticks_in b) in
    let told : run calls (book_reached b list) ≡ reached (number_in b) (before ++ calls) =
    ap (run calls) (book_reached_lem b list e) ∙ sym (reached_append (number_in b) before calls) in
    let tied = run_tied (length list) calls (reached (number_in b) before) (book_keeping b list) (book_tied b list e) in
    rw told (tied_saves (number_in b) (before ++ calls) (keep_run calls (book_keeping b list)) (length list) enough
    (rw (reached_append (number_in b) before calls) tied))

-- ---- 3. The file.

-- What is saved is written where the buffer has room, and reads back as these events.
pub saved_reads_back : (r : Reached) (k : Keeping) → Saves r k → length (closed_ones r) ≤ events
    → (buffer list : List ℕ) → length_of (length (saved_of k)) ≤ length buffer → length (saved_of k) ≤ length list
    → (book_written k.group.closed k.group.number (saved_of k) (length buffer) ≡ record { code = 0; place = 0; length = length_of (length (saved_of k)) })
    × ReadAsWritten k.group.closed k.group.number (saved_of k)
    (take (length_of (length (saved_of k))) (buffer_written k.group.closed k.group.number (saved_of k) buffer)) list
saved_reads_back r k s few buffer list space fits = rw s.group (
    let T = r.group.closed in
    let number = r.group.number in
    let written = good_write T number (saved_of k) (length buffer) (s.holds few) space in
    (written, rw written at (write_then_read T number (saved_of k) buffer list (rw written) fits)))
