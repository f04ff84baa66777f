-- What the judge names as the end of a grant is what the gate did. For any calls from a fresh group and any calls after them: where the judge, asked for the
-- two strips as they stand at the end, denies by a strict cause with tick e, the read after the first calls was granted if e - 1 ticks were closed then,
-- and denied if e or more were. Assumes nothing.
use mathlib.Core.Path.{◌≡◌, subst}
use mathlib.Core.Logic.{⊎_elim}
use mathlib.Core.List.{List, ◌++◌}
use Prim.Native.Nat.{ℕ, suc, ◌≤◌, ◌<◌}
use native.Mathlib.Omega.{arith}
use Rattle.rules.specs.Ranges.{models, sheets}
use Rattle.strip.specs.declared.Side.TheVariants.{Model, Sheet}
use Rattle.judge.specs.Judge.{judged_by}
use Rattle.judge.proofs.Promise.{denied_taken}
use Rattle.span.specs.Answer.{spans_in}
use Rattle.span.proofs.Judge.{judge_says}
use Rattle.spanning.specs.Spans.{Span, LiesIn}
use Rattle.spanning.specs.Told.{OverAt, VerdictSays, StrictAt}
use Rattle.spanning.proofs.Exactly.{spans_are}
use Rattle.spanning.proofs.Last.{last_lies, lies_before}
use Rattle.group.specs.Read.{Granted, Denied, read_answer}
use Rattle.group.specs.declared.Group.{Group}
use Rattle.demands.specs.Calls.{Call, Run, start_fresh, reach}
use Rattle.demands.specs.Gated.{strip, model, sheet}
use Rattle.demands.specs.Ours.{ours}
use Rattle.demands.proofs.Gates.{fresh_gated}
use Rattle.demands.proofs.Spans.{spans_are_reads}

module _ (number : ℕ) (calls others : List Call) (m s : ℕ) (h : m < models) (b : s < sheets) where
  abbrev then : Run Group
  then = reach ours (start_fresh ours number) calls

  abbrev last : Run Group
  last = reach ours (start_fresh ours number) (calls ++ others)

  abbrev of_model : List ℕ
  of_model = strip last Model m

  abbrev of_sheet : List ℕ
  of_sheet = strip last Sheet s

  abbrev l : List Span
  l = spans_in of_model of_sheet last.closed

  pub ended_reads : (e : ℕ) → StrictAt (judged_by of_model of_sheet last.closed) e
      → (suc then.closed ≡ e → read_answer then.group m s ≡ Granted) × (e ≤ then.closed → read_answer then.group m s ≡ Denied)
  ended_reads e strict =
      let now = last.closed in
      let x = spans_are (model last m) (sheet last s) now in
      let a = ⊎_elim (denied_taken of_model of_sheet now _) (denied_taken of_model of_sheet now _) strict in
      let says = judge_says of_model of_sheet now a l x in
      let over : OverAt l now e = ⊎_elim (λ q. subst (VerdictSays l now) q says) (λ q. subst (VerdictSays l now) q says) strict in
      let reads = spans_are_reads number calls m s h b others l x in
      let gated = fresh_gated number calls in (
        λ q. reads.1 (subst (λ (t : ℕ). LiesIn t l) (omega (arith, q, over.ends)) (last_lies now 0 l over.span x.apart over.last)),
        λ q. (gated.denied m s h b).1 (λ g. absurd (omega (arith, q, over.ends, lies_before now 0 l over.span then.closed x.apart over.last (reads.0 ((gated.read m s h b).1 g))))),
      )
