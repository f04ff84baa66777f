-- The answer of `spans` and its list where all pairs fit. Assumes nothing.
use mathlib.Core.Path.{◌≡◌, ◌∙◌}
use mathlib.Core.List.{List}
use Prim.Native.Nat.{ℕ, ◌*◌, ◌≤◌}
use lib.ListN.{length}
use borrow.Author.Tests.{le-ltb}
use Rattle.std.specs.Prelude.{Ok, Err}
use Rattle.wire.specs.Put.{put}
use Rattle.judge.specs.Judge.{StripsAccepted}
use Rattle.judge.proofs.Checked.{checks}
use Rattle.span.specs.Answer.{flat, spans_in, counted, spans_answer, list_after}

module _ (m s : List ℕ) (now : ℕ) (a : StripsAccepted m s now) where
  pub answer_given : (room : ℕ) → 2 * length (spans_in m s now) ≤ room → spans_answer m s now room ≡ counted (Ok (length (spans_in m s now)))
  answer_given room h = checks m s now (λ refusal. counted (Err refusal)) _ a ∙ simp (le-ltb room (2 * length (spans_in m s now)) h)

  pub list_given : (list : List ℕ) → 2 * length (spans_in m s now) ≤ length list → list_after m s now list ≡ put list 0 (flat (spans_in m s now))
  list_given list h = checks m s now (λ refusal. list) _ a ∙ simp (le-ltb (length list) (2 * length (spans_in m s now)) h)
