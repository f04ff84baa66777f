-- The refusals are the check's, then 40; a pass without room counts and leaves the list, one with room for all pairs writes them.
use mathlib.Core.Path.{◌≡◌, sym, ap, ◌∙◌}
use mathlib.Core.List.{List, [], ◌++◌}
use Prim.Native.Nat.{ℕ, ◌*◌, ◌≤◌}
use native.Mathlib.Omega.{arith}
use lib.ListN.{length}
use Rattle.std.specs.Prelude.{Ok}
use Rattle.judge.specs.Judge.{StripsAccepted}
use Rattle.judge.proofs.Checked.{check_accepts}
use Rattle.span.specs.Answer.{spans_in, counted, spans_answer, list_after}
use Rattle.spanning.specs.Steps.{most, pairs_from}
use Rattle.span.proofs.Answers.{answer_given, list_given}
use Rattle.span.proofs.Few.{spans_few}
use Rattle.span.proofs.Fit.{no_room, all_put}
use Rattle.span.proofs.spans.Goals as goal

-- no more pairs than half the events
few : (m s : List ℕ) (now : ℕ) → StripsAccepted m s now → length (spans_in m s now) ≤ most
few m s now x = omega (arith, spans_few m s now, x.short_m, x.short_s)

-- what is answered, and what the list is then, where all pairs fit
all_given : (m s : List ℕ) (now : ℕ) → StripsAccepted m s now → (list out : List ℕ) (n : ℕ) → 2 * length (spans_in m s now) ≤ length list
    → n ≡ length (spans_in m s now) → out ≡ pairs_from list 0 (spans_in m s now)
    → (counted (Ok n) ≡ spans_answer m s now (length list)) × (out ≡ list_after m s now list)
all_given m s now x list out n h k e = (
  ap (λ (c : ℕ). counted (Ok c)) k ∙ sym (answer_given m s now x (length list) h),
  e ∙ all_put (spans_in m s now) list 0 (omega arith) ∙ sym (list_given m s now x list h),
)

pub pairs-requires : goal.pairs-requires
pairs-requires c = check_accepts _ _ _ (sym c.check.ensures ∙ c.in_ok-check.was)

pub overflow_cast-result : goal.overflow_cast-result
overflow_cast-result c =
    let x : StripsAccepted c.args.m.now c.args.s.now c.args.now = check_accepts _ _ _ (sym c.check.ensures ∙ c.in_ok-check.was) in
    omega (arith, few _ _ _ x, c.pairs.ensures.0)

pub returns-then-list-m : goal.returns-then-list-m
returns-then-list-m c =
    let x = check_accepts _ _ _ (sym c.check.ensures ∙ c.in_ok-check.was) in
    -- as many numbers as the strips have words
    all_given _ _ _ x _ _ _ (omega (arith, spans_few c.args.m.now c.args.s.now c.args.now, c.if-list-m.true)) c.pairs.ensures.0 c.pairs.ensures.1

pub pairs-count-requires : goal.pairs-count-requires
pairs-count-requires c = check_accepts _ _ _ (sym c.check.ensures ∙ c.in_ok-check.was)

pub pairs-requires-2 : goal.pairs-requires-2
pairs-requires-2 c = check_accepts _ _ _ (sym c.check.ensures ∙ c.in_ok-check.was)

pub returns : goal.returns
returns c =
    let m = c.args.m.now in
    let s = c.args.s.now in
    let now = c.args.now in
    let list = c.args.list.now in
    let x : StripsAccepted m s now = check_accepts _ _ _ (sym c.check.ensures ∙ c.in_ok-check.was) in
    -- the count left the list as it was
    let back = c.pairs-count.ensures.1 ∙ no_room _ [] 0 (omega arith) in
    let long = ap length back in
    let h : 2 * length (spans_in m s now) ≤ length list = omega (arith, c.pairs-count.ensures.0, c.if-list-count.false) in
    all_given _ _ _ x _ _ _ h c.pairs-2.ensures.0 (c.pairs-2.ensures.1 ∙ ap (λ (l : List ℕ). pairs_from (l ++ list) 0 (spans_in m s now)) back)
