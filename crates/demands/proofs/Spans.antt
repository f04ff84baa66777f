-- "When could it read?" The list of the spans is what the gate did. For any calls from a fresh group and any calls after them: when the first had been
-- made, with t ticks closed, the read of a model and a sheet was granted exactly when t lies in a span of the two strips as they stand after the
-- others. And asked for these two strips, `spans` writes that list. Assumes nothing.
use mathlib.Core.Path.{◌≡◌, sym, ap, ◌∙◌, subst}
use mathlib.Core.Logic.{◌↔◌, ⊎_elim}
use mathlib.Core.List.{List, ◌++◌}
use Prim.Native.Nat.{ℕ, ◌+◌, ◌≤◌, ◌<◌}
use native.Mathlib.Omega.{arith}
use native.Mathlib.Nat.{eq-or-lt_of_le}
use lib.ListN.{length}
use Rattle.rules.specs.Ranges.{models, sheets, ticks, events}
use Rattle.formula.specs.Formula.{History, Grant}
use Rattle.formula.proofs.Meaning.{means_grant}
use Rattle.formula.proofs.Move.{grant_same}
use Rattle.strip.specs.declared.Side.{Side}
use Rattle.strip.specs.declared.Side.TheVariants.{Model, Sheet}
use Rattle.strip.specs.History.{history_of}
use Rattle.wire.specs.Put.{put}
use Rattle.judge.specs.Judge.{StripsAccepted}
use Rattle.span.specs.Answer.{flat, spans_in, spans_answer, list_after}
use Rattle.spanning.specs.Spans.{Span, LiesIn, Spans}
use Rattle.span.proofs.Answers.{answer_given, list_given}
use Rattle.spanning.proofs.Exactly.{spans_are, lies_after}
use Rattle.span.proofs.Few.{spans_few}
use Rattle.group.specs.Read.{Granted, read_answer}
use Rattle.group.specs.declared.Group.{Group}
use Rattle.history.specs.Run.{Reached, run}
use Rattle.history.specs.Run as history
use Rattle.strip.specs.Strips.{strip_of}
use Rattle.history.proofs.Gate as gate
use Rattle.history.proofs.Later.{run_closed, run_strip, told_later}
use Rattle.history.proofs.Runs.{run_append}
use Rattle.demands.specs.Calls.{Call, Run, start_fresh, reach}
use Rattle.demands.specs.Gated.{strip, model, sheet}
use Rattle.demands.specs.Ours.{ours}
use Rattle.demands.proofs.Gates.{fresh_gated}
use Rattle.demands.proofs.Moving.{moving, of, asked, fresh_reach, moving_append}

-- ---- over requests and closes
module _ (number : ℕ) (before next : List history.Move) (m s : ℕ) (h : m < models) (b : s < sheets) where
  abbrev first : Reached
  first = history.reached number before

  abbrev last : Reached
  last = run next first

  abbrev t : ℕ
  t = first.group.closed

  abbrev end : ℕ
  end = last.group.closed

  -- what the events of closed ticks tell by then, and at the end
  abbrev model_then : History
  model_then = history_of (strip_of Model m t first.events)

  abbrev sheet_then : History
  sheet_then = history_of (strip_of Sheet s t first.events)

  abbrev model_last : History
  model_last = history_of (strip_of Model m end last.events)

  abbrev sheet_last : History
  sheet_last = history_of (strip_of Sheet s end last.events)

  -- up to tick t the later strips tell what the earlier ones told
  same_told : (side : Side) (n k : ℕ) → k ≤ t → history_of (strip_of side n t first.events) k ≡ history_of (strip_of side n end last.events) k
  same_told side n k l =
      ap (λ (x : List ℕ). history_of x k) (sym (run_strip next first side n t (omega arith)))
      ∙ sym (told_later side n t end k last.events l (run_closed next first))

  same_grant : Grant model_then sheet_then t ↔ Grant model_last sheet_last t
  same_grant =
      let e = grant_same model_then model_last sheet_then sheet_last t (same_told Model m) (same_told Sheet s) in
      let x = means_grant model_then sheet_then t in
      let y = means_grant model_last sheet_last t in
      (λ g. y.0 (sym e ∙ x.1 g), λ g. x.0 (e ∙ y.1 g))

  -- before the first close nothing is granted, and tick 0 lies in no span
  no_grant : (f g : History) → Grant f g 0 → ⊥
  no_grant f g = ⊎_elim (λ x. omega (arith, x.1, x.2)) (λ x. omega (arith, x.1, x.2))

  lies : (l : List Span) → Spans model_last sheet_last end l → Grant model_last sheet_last t ↔ LiesIn t l
  lies l x =
      let f = model_last in
      let k = sheet_last in (
        λ g. ⊎_elim
            (λ (e : 0 ≡ t). absurd (no_grant f k (subst (λ (u : ℕ). Grant f k u) (sym e) g)))
            (λ z. (x.exactly t z (run_closed next first)).1 g)
            (eq-or-lt_of_le (let zero : 0 ≤ t = omega arith in zero)),
        λ y. (x.exactly t (lies_after 0 end t l x.apart y) (run_closed next first)).0 y,
      )

  did : (l : List Span) → Spans model_last sheet_last end l → (read_answer first.group m s ≡ Granted) ↔ LiesIn t l
  did l x =
      let read = gate.read_is_formula number before m s h b in
      let same = same_grant in
      let in-it = lies l x in
      (λ e. in-it.0 (same.0 (read.0 e)), λ y. read.1 (same.1 (in-it.1 y)))

-- ---- over all calls
module _ (number : ℕ) (calls : List Call) (m s : ℕ) (h : m < models) (b : s < sheets) where
  -- where the calls lead
  abbrev stood : Run Group
  stood = reach ours (start_fresh ours number) calls

  -- what the gate did by then, as the list tells it after any further calls
  pub spans_are_reads : (others : List Call) (l : List Span)
      → let last = reach ours (start_fresh ours number) (calls ++ others) in Spans (model last m) (sheet last s) last.closed l
      → (read_answer stood.group m s ≡ Granted) ↔ LiesIn stood.closed l
  spans_are_reads others l x =
      let whole : history.reached number (moving (calls ++ others)) ≡ run (moving others) (history.reached number (moving calls)) =
      ap (history.reached number) (moving_append calls others) ∙ run_append (moving calls) (moving others) (history.fresh number) in
      let y = subst (λ (r : Run Group). Spans (model r m) (sheet r s) r.closed l) (fresh_reach number (calls ++ others) ∙ ap (of (asked number)) whole) x in
      subst (λ (r : Run Group). (read_answer r.group m s ≡ Granted) ↔ LiesIn r.closed l) (sym (fresh_reach number calls))
      (did number (moving calls) (moving others) m s h b l y)

  -- the two strips as they stand
  abbrev of_model : List ℕ
  of_model = strip stood Model m

  abbrev of_sheet : List ℕ
  of_sheet = strip stood Sheet s

  -- that list is what the call writes, where the strips are not too long and the list has as many numbers as they have events
  pub spans_written : length of_model ≤ events → length of_sheet ≤ events → (list : List ℕ) → length of_model + length of_sheet ≤ length list
      → (l : List Span) × Spans (model stood m) (sheet stood s) stood.closed l
      × (spans_answer of_model of_sheet stood.closed (length list) ≡ record { code = 0; place = 0; count = length l })
      × (list_after of_model of_sheet stood.closed list ≡ put list 0 (flat l))
  spans_written short_m short_s list room =
      let now = stood.closed in
      let good = (fresh_gated number calls).good in
      let a : StripsAccepted of_model of_sheet now = record {
        tick = subst (λ (r : Run Group). r.closed ≤ ticks) (sym (fresh_reach number calls)) (gate.now_bounded number (moving calls));
        short_m = short_m;
        short_s = short_s;
        good_m = good Model m h;
        good_s = good Sheet s b;
      } in
      let fits = spans_few of_model of_sheet now in (
        spans_in of_model of_sheet now,
        spans_are _ _ now,
        answer_given of_model of_sheet now a (length list) (omega arith),
        list_given of_model of_sheet now a list (omega arith),
      )
