-- A run on our gate is the history's run of the requests and closes among its calls: the others leave the group. And what the run itself counts, its
-- closed ticks and its number, is what the group's record says. Assumes nothing.
use mathlib.Core.Path.{◌≡◌, refl, sym, ap, ◌∙◌}
use mathlib.Core.Bool.{true, false, cond}
use mathlib.Core.Logic.{⊎_elim}
use mathlib.Core.List.{List, [], ◌∷◌, ◌++◌}
use Prim.Native.Nat.{ℕ, ◌+◌, ◌≤◌}
use native.Mathlib.Omega.{arith}
use lib.Dec.{eqb, ltb}
use borrow.Author.Tests.{ltb-true, ltb-false, lt-leb, le-leb}
use Rattle.base.proofs.Truth.{either}
use Rattle.rules.specs.Ranges.{groups, ticks}
use Rattle.event.specs.Word.{word_of}
use Rattle.group.specs.Close.{close_answer}
use Rattle.group.specs.Fresh.{fresh_group, fresh_answer}
use Rattle.group.specs.Request.{request_answer}
use Rattle.group.specs.declared.Answer.{Answer}
use Rattle.group.specs.declared.Group.{Group}
use Rattle.group.proofs.Close.{closed_number, closed_closed, close_cases, close_accepted}
use Rattle.group.proofs.Request.{request_keeps}
use Rattle.history.specs.Run.{Reached, step, run}
use Rattle.history.specs.Run as history
use Rattle.demands.specs.Calls.{Call, request, close, read, count, deliver, Run, start_fresh, next, reach}
use Rattle.demands.specs.Ours.{ours}

-- the calls that can move a group, as the history of a group has them
unfoldable pub moving : List Call → List history.Move
moving [] = []
moving (request kind n ∷ calls) = history.request kind n ∷ moving calls
moving (close ∷ calls) = history.close ∷ moving calls
moving (read m s ∷ calls) = moving calls
moving (count s ∷ calls) = moving calls
moving (deliver m store out ∷ calls) = moving calls

abbrev pub standing : Group → ℕ → List ℕ → ℕ → Run Group
standing g number ws t = record { group = g; number = number; closed = t; events = ws }

-- a run whose closed ticks are those of its group's record
abbrev pub of : ℕ → Reached → Run Group
of number r = standing r.group number r.events r.group.closed

-- ---- a call

close_counts : (g : Group) → cond (ltb g.closed ticks) (g.closed + 1) g.closed ≡ (close_answer g).group.closed
close_counts g = ⊎_elim
    (λ (t : ltb g.closed ticks ≡ true). simp t (sym (closed_closed g) ∙ ap (λ (a : Answer). a.group.closed) (sym (close_accepted g (ltb-true _ _ t)))))
    (λ (f : ltb g.closed ticks ≡ false). simp f (close_refused (ltb-false _ _ f)))
    (either (ltb g.closed ticks))
  where
    close_refused : ticks ≤ g.closed → g.closed ≡ (close_answer g).group.closed
    close_refused h = close_cases g (λ (x : Group). g.closed ≡ x.closed) refl (λ l. absurd (omega arith))

module _ (number : ℕ) (r : Reached) where
  of_request : (kind n : ℕ) → next ours (of number r) (request kind n) ≡ of number (step (history.request kind n) r)
  unfolding next step
  of_request kind n =
      let g = (request_answer r.group kind n).group in
      let ws = cond (eqb (request_answer r.group kind n).code 0) (r.events ++ (word_of (r.group.closed + 1) kind n ∷ [])) r.events in
      ap (standing g number ws) (sym (request_keeps r.group kind n).closed)

  of_close : next ours (of number r) close ≡ of number (step history.close r)
  unfolding next step
  of_close = ap (standing (close_answer r.group).group number r.events) (close_counts r.group)

-- ---- a run

pub reach_moving : (number : ℕ) (calls : List Call) (r : Reached) → reach ours (of number r) calls ≡ of number (run (moving calls) r)
unfolding reach next moving run
reach_moving number [] r = refl
reach_moving number (request kind n ∷ calls) r =
    ap (λ (x : Run Group). reach ours x calls) (of_request number r kind n) ∙ reach_moving number calls (step (history.request kind n) r)
reach_moving number (close ∷ calls) r = ap (λ (x : Run Group). reach ours x calls) (of_close number r) ∙ reach_moving number calls (step history.close r)
reach_moving number (read m s ∷ calls) r = reach_moving number calls r
reach_moving number (count s ∷ calls) r = reach_moving number calls r
reach_moving number (deliver m store out ∷ calls) r = reach_moving number calls r

pub moving_append : (calls others : List Call) → moving (calls ++ others) ≡ moving calls ++ moving others
unfolding moving
moving_append [] others = refl
moving_append (request kind n ∷ calls) others = ap (λ (l : List history.Move). history.request kind n ∷ l) (moving_append calls others)
moving_append (close ∷ calls) others = ap (λ (l : List history.Move). history.close ∷ l) (moving_append calls others)
moving_append (read m s ∷ calls) others = moving_append calls others
moving_append (count s ∷ calls) others = moving_append calls others
moving_append (deliver m store out ∷ calls) others = moving_append calls others

-- ---- from fresh

abbrev pub asked : ℕ → ℕ
asked number = cond (ltb number groups) number 0

fresh_group_lem : (number : ℕ) → (fresh_answer number).group ≡ fresh_group (asked number)
unfolding fresh_answer
fresh_group_lem number = ⊎_elim
    (λ (t : ltb number groups ≡ true). simp (t, lt-leb groups number (ltb-true number groups t)))
    (λ (f : ltb number groups ≡ false). simp (f, le-leb groups number (ltb-false number groups f)))
    (either (ltb number groups))

pub fresh_number : (number : ℕ) → (fresh_answer number).group.number ≡ asked number
unfolding fresh_group
fresh_number number = ap (λ (g : Group). g.number) (fresh_group_lem number)

pub start_of : (number : ℕ) → start_fresh ours number ≡ of (asked number) (history.fresh number)
unfolding fresh_group
start_of number = ap (standing (fresh_answer number).group (asked number) []) (sym (ap (λ (g : Group). g.closed) (fresh_group_lem number)))

-- nothing moves a group's number
pub run_number : (moves : List history.Move) (r : Reached) → (run moves r).group.number ≡ r.group.number
unfolding run step
run_number [] r = refl
run_number (history.request kind n ∷ moves) r = run_number moves (step (history.request kind n) r) ∙ (request_keeps r.group kind n).number
run_number (history.close ∷ moves) r =
    run_number moves (step history.close r) ∙ close_cases r.group (λ (g : Group). g.number ≡ r.group.number) refl (λ l. closed_number r.group)

pub fresh_reach : (number : ℕ) (calls : List Call) → reach ours (start_fresh ours number) calls ≡ of (asked number) (history.reached number (moving calls))
fresh_reach number calls = ap (λ (x : Run Group). reach ours x calls) (start_of number) ∙ reach_moving (asked number) calls (history.fresh number)
