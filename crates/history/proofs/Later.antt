-- Later calls leave what was: no closed tick is opened again, and the events up to a closed tick stay as they were. Assumes nothing.
use mathlib.Core.Path.{◌≡◌, refl, sym, ◌∙◌}
use mathlib.Core.Bool.{Bool, true, false}
use mathlib.Core.List.{List, [], ◌∷◌}
use mathlib.Core.Logic.{⊎_elim}
use Prim.Native.Nat.{ℕ, ◌≤◌}
use native.Mathlib.Omega.{arith}
use lib.Dec.{eqb}
use borrow.Author.Tests.{eqb-true, eqb-false, ne_eqb, le-leb}
use Rattle.base.proofs.Truth.{either}
use Rattle.event.specs.Word.{word_of, tick_of}
use Rattle.event.proofs.Word.{tick_word}
use Rattle.strip.specs.declared.Side.{Side}
use Rattle.strip.specs.History.{history_of}
use Rattle.group.specs.Request.{request_answer}
use Rattle.group.specs.declared.Group.{Group}
use Rattle.group.proofs.Accepted.{accepted}
use Rattle.event.proofs.Carrier.{sheet_number}
use Rattle.group.proofs.Close.{close_cases, closed_closed}
use Rattle.group.proofs.Request.{request_code, request_keeps}
use Rattle.history.specs.Run.{Move, request, close, Reached, open_tick, step, run}
use Rattle.strip.specs.Strips.{strip_of}
use Rattle.base.specs.Keep.{keep}
use Rattle.history.proofs.Strips.{strip_later}

-- ---- one call
-- the word of an accepted request is of the open tick
open_word_lem : (g : Group) (kind n : ℕ) → (request_answer g kind n).code ≡ 0 → tick_of (word_of (open_tick g) kind n) ≡ open_tick g
open_word_lem g kind n e =
    let a = accepted g kind n (sym (request_code g kind n) ∙ e) in
    tick_word (open_tick g) kind n a.known (omega (arith, sheet_number kind n a.ranged))

step_closed : (c : Move) (r : Reached) → r.group.closed ≤ (step c r).group.closed
unfolding step
step_closed (request kind n) r = omega (arith, (request_keeps r.group kind n).closed)
step_closed close r = close_cases r.group (λ (g : Group). r.group.closed ≤ g.closed) (omega arith) (λ h. omega (arith, closed_closed r.group))

step_strip : (c : Move) (r : Reached) (side : Side) (n t : ℕ) → t ≤ r.group.closed → strip_of side n t (step c r).events ≡ strip_of side n t r.events
unfolding step
step_strip (request kind number) r side n t h = ⊎_elim
    (λ (y : eqb (request_answer r.group kind number).code 0 ≡ true).
    simp y (strip_later side n r.events t (word_of (open_tick r.group) kind number) (omega (arith, open_word_lem r.group kind number (eqb-true _ _ y)))))
    (λ (z : eqb (request_answer r.group kind number).code 0 ≡ false). simp z)
    (either (eqb (request_answer r.group kind number).code 0))
step_strip close r side n t h = refl

-- ---- calls
pub run_closed : (calls : List Move) (r : Reached) → r.group.closed ≤ (run calls r).group.closed
unfolding run
run_closed [] r = omega arith
run_closed (c ∷ calls) r = omega (arith, step_closed c r, run_closed calls (step c r))

pub run_strip : (calls : List Move) (r : Reached) (side : Side) (n t : ℕ) → t ≤ r.group.closed → strip_of side n t (run calls r).events ≡ strip_of side n t r.events
unfolding run
run_strip [] r side n t h = refl
run_strip (c ∷ calls) r side n t h = run_strip calls (step c r) side n t (omega (arith, step_closed c r)) ∙ step_strip c r side n t h

-- ---- what a strip tells of a tick rests on the events of that tick
module _ (k w : ℕ) (n : tick_of w ≡ k → ⊥) where
  skip : (p : ℕ → Bool) (ws : List ℕ) → history_of (keep p (w ∷ ws)) k ≡ history_of (keep p ws) k
  unfolding keep history_of
  skip p ws = ⊎_elim
      (λ (y : p w ≡ true). simp (y, ne_eqb (tick_of w) k n))
      (λ (z : p w ≡ false). simp z)
      (either (p w))

told_by_lem : (p q : ℕ → Bool) (k : ℕ) → ((w : ℕ) → tick_of w ≡ k → p w ≡ q w) → (ws : List ℕ) → history_of (keep p ws) k ≡ history_of (keep q ws) k
unfolding keep history_of
told_by_lem p q k e [] = refl
told_by_lem p q k e (w ∷ ws) = ⊎_elim
    (λ (y : eqb (tick_of w) k ≡ true). ⊎_elim
    (λ (t : q w ≡ true). simp (e w (eqb-true _ _ y), t, y))
    (λ (f : q w ≡ false). simp (e w (eqb-true _ _ y), f) (told_by_lem p q k e ws))
    (either (q w)))
    (λ (z : eqb (tick_of w) k ≡ false). skip k w (eqb-false _ _ z) p ws ∙ told_by_lem p q k e ws ∙ sym (skip k w (eqb-false _ _ z) q ws))
    (either (eqb (tick_of w) k))

pub told_later : (side : Side) (n t u k : ℕ) (ws : List ℕ) → k ≤ t → t ≤ u → history_of (strip_of side n u ws) k ≡ history_of (strip_of side n t ws) k
told_later side n t u k ws h l =
    told_by_lem _ _ k (λ w e. simp (le-leb (tick_of w) u (omega arith), le-leb (tick_of w) t (omega arith))) ws
