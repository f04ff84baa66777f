-- "no ticks closed" at first, and then one for each close: over any gate, the closed ticks of a run are the number of its closes, at most 1,000,000;
-- after a book, T plus the closes, likewise. Assumes nothing.
use mathlib.Core.Path.{◌≡◌, sym, ap, ◌∙◌}
use mathlib.Core.Bool.{true, false, cond}
use mathlib.Core.Logic.{⊎_elim}
use mathlib.Core.List.{List, [], ◌∷◌}
use Prim.Native.Nat.{ℕ, suc, ◌+◌, ◌≤◌}
use native.Mathlib.Omega.{arith}
use lib.Dec.{ltb}
use borrow.Author.Tests.{ltb-true, ltb-false, le-ltb}
use Rattle.base.proofs.Truth.{either}
use Rattle.rules.specs.Ranges.{ticks}
use Rattle.demands.specs.Calls.{Call, request, close, read, count, deliver, Run, next, reach}
use Rattle.demands.specs.Gate.{Gate}

-- how many closes there are among some calls
unfoldable pub closes : List Call → ℕ
closes [] = 0
closes (request kind n ∷ calls) = closes calls
closes (close ∷ calls) = suc (closes calls)
closes (read m s ∷ calls) = closes calls
closes (count s ∷ calls) = closes calls
closes (deliver m store out ∷ calls) = closes calls

-- n, and at most the last tick
abbrev pub upto : ℕ → ℕ
upto n = cond (ltb n ticks) n ticks

within : (n : ℕ) → n ≤ ticks → upto n ≡ n
within n h = ⊎_elim
    (λ (t : ltb n ticks ≡ true). simp t)
    (λ (f : ltb n ticks ≡ false). let all = ltb-false n ticks f in simp f (omega arith))
    (either (ltb n ticks))

full : (n : ℕ) → ticks ≤ n → upto n ≡ ticks
full n h = simp (le-ltb n ticks h)

module _ {State : Type 0} (G : Gate State) where
  pub ticks_are_closes : (calls : List Call) (r : Run State) → r.closed ≤ ticks → (reach G r calls).closed ≡ upto (r.closed + closes calls)
  unfolding reach next closes
  ticks_are_closes [] r h = sym (ap upto (let e : r.closed + 0 ≡ r.closed = omega arith in e) ∙ within r.closed h)
  ticks_are_closes (request kind n ∷ calls) r h = ticks_are_closes calls (next G r (request kind n)) h
  ticks_are_closes (close ∷ calls) r h = ⊎_elim
      (λ (t : ltb r.closed ticks ≡ true).
      let more : (next G r close).closed ≡ r.closed + 1 = simp t in
      let left = ltb-true r.closed ticks t in
      ticks_are_closes calls (next G r close) (rw more (omega arith))
      ∙ ap (λ (n : ℕ). upto (n + closes calls)) more
      ∙ ap upto (let e : r.closed + 1 + closes calls ≡ r.closed + suc (closes calls) = omega arith in e))
      (λ (f : ltb r.closed ticks ≡ false).
      let same : (next G r close).closed ≡ r.closed = simp f in
      let none_left = ltb-false r.closed ticks f in
      ticks_are_closes calls (next G r close) (rw same h)
      ∙ ap (λ (n : ℕ). upto (n + closes calls)) same
      ∙ full (r.closed + closes calls) (omega arith)
      ∙ sym (full (r.closed + suc (closes calls)) (omega arith)))
      (either (ltb r.closed ticks))
  ticks_are_closes (read m s ∷ calls) r h = ticks_are_closes calls r h
  ticks_are_closes (count s ∷ calls) r h = ticks_are_closes calls r h
  ticks_are_closes (deliver m store out ∷ calls) r h = ticks_are_closes calls r h
