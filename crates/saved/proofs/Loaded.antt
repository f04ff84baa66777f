-- The keeper after an accepted book was loaded is tied to what the book's calls reach: its records are the events, and stand in book order already.
-- Assumes nothing.
use mathlib.Core.Path.{◌≡◌, refl, sym, ap, ap₂, ◌∙◌}
use mathlib.Core.Bool.{true, false}
use mathlib.Core.List.{List, [], ◌∷◌, ◌++◌}
use mathlib.Core.Logic.{⊎_elim}
use Prim.Native.Nat.{ℕ, zero, suc, ◌-◌, ◌≤◌, ◌<◌}
use native.Mathlib.Nat.{eq-zero-or-pos, le_refl}
use native.Mathlib.Omega.{arith}
use lib.Dec.{ltb, leb}
use lib.ListN.{length, get_or, take, drop, length-append, length-drop}
use lib.Seq.{take-suc, take-length, drop-length, length-take-le, get_or-take, take-append_seam}
use borrow.Author.Tests.{ltb-false, le-leb}
use Rattle.base.proofs.Truth.{either}
use Rattle.event.specs.Word.{tick_of}
use Rattle.wire.proofs.Words.{length_words}
use Rattle.group.specs.declared.Group.{Group}
use Rattle.history.specs.Run.{Reached, fresh, reached}
use Rattle.base.proofs.Keep.{keep_all}
use Rattle.replay.specs.Calls.{book_calls}
use Rattle.book.specs.Read.{records_in, book_read, list_read}
use Rattle.format.specs.Header.{ticks_in, count_in, number_in}
use Rattle.records.specs.Records.{WellFormedRecords}
use Rattle.replay.specs.Replay.{counted, closed_up_to, replayed_group}
use Rattle.book.specs.declared.BookRead.{BookRead}
use Rattle.book.proofs.Accepted.{read_code, read_headed, read_formed, good_read, good_list}
use Rattle.tick.proofs.Part.{climb}
use Rattle.records.proofs.Pass.{good, formed_rises}
use Rattle.replay.proofs.Replaying.{replay_reached}
use Rattle.insert.specs.Inserted.{inserted}
use Rattle.kept.specs.Kept.{records_of}
use Rattle.insert.proofs.Among.{place, place_inside, place_behind}
use Rattle.saved.specs.Keeping.{fresh_keeping, book_keeping}
use Rattle.saved.specs.Saved.{up_to, book_reached}
use Rattle.saved.proofs.Order.{in_order, order_more}
use Rattle.saved.proofs.Follows.{Front}
use Rattle.saved.proofs.Steps.{Tied, ordered, run_tied, fresh_tied}

-- ---- words that rise are in order

-- a word that no other is greater than comes last
inserted_last : (ws : List ℕ) (w : ℕ) → ((k : ℕ) → k < length ws → get_or ws k 0 ≤ w) → inserted ws w ≡ ws ++ (w ∷ [])
unfolding inserted
inserted_last ws w h =
    let inner = place_inside ws w in
    let end : place ws w ≡ length ws = ⊎_elim
    (λ (z : length ws ≡ zero). omega arith)
    (λ (some : zero < length ws). let b = place_behind ws w (length ws) (length ws - 1) (omega arith) (h (length ws - 1) (omega arith)) in omega arith)
    (eq-zero-or-pos (length ws)) in
    rw end (ap₂ (λ (x y : List ℕ). x ++ (w ∷ y)) (take-length ws) (drop-length ws))

module _ (T : ℕ) (ws : List ℕ) (formed : WellFormedRecords T ws) where
  order_front : (i : ℕ) → i ≤ length ws → in_order [] (take i ws) ≡ take i ws
  unfolding in_order
  order_front zero h = refl
  order_front (suc i) h =
      let next = take-suc ws i 0 h in
      let long = length-take-le i ws (omega arith) in
      ap (in_order []) next
      ∙ order_more [] (take i ws) (get_or ws i 0)
      ∙ ap (λ (x : List ℕ). inserted x (get_or ws i 0)) (order_front i (omega arith))
      ∙ inserted_last (take i ws) (get_or ws i 0)
      (λ k l. rw (get_or-take i ws k 0 (omega arith)) (climb ws (formed_rises T ws formed) k i (omega arith) h))
      ∙ sym next

  order_formed : in_order [] ws ≡ ws
  order_formed = ap (in_order []) (sym (take-length ws)) ∙ order_front (length ws) (le_refl _) ∙ take-length ws

-- ---- the book

-- no tick of the book is left open
ticks_closed : (g : Group) (T : ℕ) → T ≤ (closed_up_to g T).closed
unfolding closed_up_to counted
ticks_closed g T = ⊎_elim
    (λ (t : ltb g.closed T ≡ true). simp t (omega arith))
    (λ (f : ltb g.closed T ≡ false). simp f (ltb-false _ _ f))
    (either (ltb g.closed T))

module _ (b list : List ℕ) (e : (book_read b (length list)).code ≡ 0) where
  abbrev T : ℕ
  T = ticks_in b

  abbrev number : ℕ
  number = number_in b

  abbrev ws : List ℕ
  ws = records_in b

  formed : WellFormedRecords T ws
  formed = read_formed b (length list) e

  -- what the book's calls reach
  abbrev told : Reached
  told = reached number (book_calls ws T)

  told_is : told ≡ record { group = replayed_group T number ws; events = ws }
  told_is = replay_reached T number ws (read_headed b (length list) e).range.time formed

  events_are : told.events ≡ ws
  events_are = ap (λ (r : Reached). r.events) told_is

  -- it is what the book reaches
  pub book_reached_lem : book_reached b list ≡ told
  book_reached_lem =
      ap₂ (λ (g : Group) (es : List ℕ). record { group = g; events = es }) (ap (λ (r : BookRead). r.group) (good_read b list (read_code b (length list) e) formed)) (sym events_are)

  order_is : ordered told ≡ ws
  order_is = ap (in_order []) events_are ∙ order_formed T ws formed

  time : T ≤ told.group.closed
  unfolding replayed_group
  time = rw told_is (ticks_closed _ T)

  all_closed : up_to told.group.closed ws ≡ ws
  all_closed = keep_all (λ w. leb (tick_of w) told.group.closed) ws
      (λ i h. le-leb (tick_of (get_or ws i 0)) told.group.closed (omega (arith, (good T ws i (formed i h)).inside.upto, time)))

  count_is : records_of (length b) ≡ length ws
  count_is =
      let head = read_headed b (length list) e in
      let long : length ws ≡ count_in b = length_words _ _ in
      omega (arith, head.total, head.count)

  list_is : list_read b list ≡ ws ++ drop (length ws) list
  list_is = good_list b list (read_code b (length list) e) formed

  fits : length ws ≤ length list
  fits = let long : length ws ≡ count_in b = length_words _ _ in omega (arith, (read_headed b (length list) e).enough)

  in_front : Front (length list) (list_read b list) (records_of (length b)) ws
  in_front = record {
    held = λ h. count_is;
    words = λ h. ap (take (length ws)) list_is ∙ take-append_seam ws (drop (length ws) list);
    full = λ h. absurd (omega (arith, fits));
  }

  pub book_tied : Tied (length list) told (book_keeping b list)
  book_tied = record {
    group = ap (λ (r : BookRead). r.group) (good_read b list (read_code b (length list) e) formed);
    book = (run_tied 0 (book_calls ws T) (fresh number) (fresh_keeping number []) (fresh_tied number [])).book;
    follows = rw order_is (record {
      long = ap length list_is ∙ length-append ws (drop (length ws) list) ∙ omega (arith, length-drop (length ws) list, fits);
      all = in_front;
      closed = rw all_closed in_front;
    });
  }
