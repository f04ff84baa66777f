-- A book that is read leaves its ticks closed and its number: requests move neither, and a close counts one tick. Assumes nothing.
use mathlib.Core.Path.{◌≡◌, refl, sym, ap, ◌∙◌, subst}
use mathlib.Core.List.{List, [], ◌∷◌, ◌++◌, map}
use Prim.Native.Nat.{ℕ, zero, suc, ◌≤◌, ◌<◌}
use native.Mathlib.Numerals.{add-one}
use native.Mathlib.Omega.{arith}
use lib.ListN.{length}
use borrow.Author.Tests.{lt-leb}
use Rattle.rules.specs.Ranges.{groups, ticks}
use Rattle.event.specs.Word.{kind_of, number_of}
use Rattle.group.specs.Close.{closed_group, close_answer}
use Rattle.group.specs.Fresh.{fresh_group, fresh_answer}
use Rattle.group.specs.declared.Answer.{Answer}
use Rattle.group.specs.declared.Group.{Group}
use Rattle.group.proofs.Close.{close_accepted, closed_number, closed_closed}
use Rattle.group.proofs.Request.{request_keeps}
use Rattle.history.specs.Run.{close, Reached, step, run, fresh, reached}
use Rattle.history.proofs.Runs.{run_append}
use Rattle.replay.specs.Calls.{request_of, requests_of, book_calls, group_of}
use Rattle.book.specs.Read.{records_in, book_read}
use Rattle.format.specs.Header.{ticks_in, number_in}
use Rattle.tick.specs.Tick.{of_tick}
use Rattle.book.specs.declared.BookRead.{BookRead}
use Rattle.book.proofs.Accepted.{read_code, read_headed, read_formed, good_read}

-- t ticks closed, in the group of that number
pub record Stands (g : Group) (t n : ℕ) : Type 0 where
  pub time : g.closed ≡ t
  pub number : g.number ≡ n

fresh_stands : (number : ℕ) → number < groups → Stands (fresh_answer number).group 0 number
unfolding fresh_answer fresh_group
fresh_stands number h = simp (lt-leb _ _ h) (record { time = refl; number = refl })

module _ (t number : ℕ) where
  requests_stand : (ws : List ℕ) (r : Reached) → Stands r.group t number → Stands (run (map request_of ws) r).group t number
  unfolding run step
  requests_stand [] r s = s
  requests_stand (w ∷ ws) r s =
      let k = request_keeps r.group (kind_of w) (number_of w) in
      requests_stand ws (step (request_of w) r) (record { time = k.closed ∙ s.time; number = k.number ∙ s.number })

  close_stands : (r : Reached) → t < ticks → Stands r.group t number → Stands (run (close ∷ []) r).group (suc t) number
  unfolding run step
  close_stands r h s =
      let g = r.group in
      let left : g.closed < ticks = rw s.time h in
      let e : (close_answer g).group ≡ closed_group g = ap (λ (x : Answer). x.group) (close_accepted g left) in
      rw e (record { time = closed_closed g ∙ add-one g.closed ∙ ap suc s.time; number = closed_number g ∙ s.number })

-- tick by tick
calls_stand : (number : ℕ) (ws : List ℕ) (t : ℕ) → t ≤ ticks → number < groups → Stands (group_of t number ws) t number
unfolding book_calls run
calls_stand number ws zero h n = fresh_stands number n
calls_stand number ws (suc t) h n =
    let first = book_calls ws t in
    let requests = requests_of ws (suc t) in
    let whole : reached number (first ++ (requests ++ (close ∷ []))) ≡ run (close ∷ []) (run requests (reached number first)) =
    run_append first (requests ++ (close ∷ [])) (fresh number) ∙ run_append requests (close ∷ []) (reached number first) in
    subst (λ (r : Reached). Stands r.group (suc t) number) (sym whole)
    (close_stands t number (run requests (reached number first)) h
    (requests_stand t number (of_tick (suc t) ws) (reached number first) (calls_stand number ws t (omega arith) n)))

pub book_stands : (b list : List ℕ) → (book_read b (length list)).code ≡ 0 → Stands (book_read b (length list)).group (ticks_in b) (number_in b)
book_stands b list e =
    let range = (read_headed b (length list) e).range in
    subst (λ (r : BookRead). Stands r.group (ticks_in b) (number_in b))
    (sym (good_read b list (read_code b (length list) e) (read_formed b (length list) e)))
    (calls_stand (number_in b) (records_in b) (ticks_in b) range.time range.group)
