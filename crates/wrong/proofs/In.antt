-- Who is in after a story, on a gate whose groups move as ours do. Assumes nothing.
use mathlib.Core.Path.{◌≡◌, refl, sym, ap₂, ◌∙◌, subst}
use mathlib.Core.Bool.{true, not}
use mathlib.Core.List.{List, [], ◌∷◌}
use Prim.Native.Nat.{ℕ, ◌<◌}
use lib.ListN.{length}
use Rattle.group.specs.Read.{ReadAnswer}
use Rattle.group.specs.declared.Group.{Group}
use Rattle.station.specs.declared.MaskAnswer.{MaskAnswer}
use Rattle.delivery.specs.Delivery.{Delivery}
use Rattle.strip.specs.declared.Side.{Side}
use Rattle.strip.specs.Good.{range}
use Rattle.strip.specs.Strips.{strip_of}
use Rattle.history.proofs.Agreed.{reached_agrees}
use Rattle.history.proofs.Sides.{even, in_on}
use Rattle.demands.specs.Calls.{Call, request, close, read, count, deliver, Run, start_fresh, next, reach}
use Rattle.demands.specs.Gate.{Gate}
use Rattle.demands.specs.Judgement.{Judgement}
use Rattle.demands.specs.Ours.{ours}
use Rattle.demands.proofs.Gates.{fresh_gated}
use Rattle.demands.proofs.Moving.{moving, fresh_reach}
use Rattle.wrong.specs.Gates.{replacing}
use Rattle.wrong.proofs.Story.{Turn, calls_of, tell_all, all_fit, begins, stands}

-- a gate with our fresh groups, requests and closes
module _ (reads : Group → ℕ → ℕ → ReadAnswer) (masks : List Group → ℕ → ℕ → MaskAnswer) (delivers : Group → ℕ → List ℕ → List ℕ → Delivery)
    (delivered : Group → ℕ → List ℕ → List ℕ → List ℕ) (judges : List ℕ → List ℕ → ℕ → Judgement) where
  abbrev pub moves : Gate Group
  moves = replacing ours.fresh ours.request ours.close reads masks delivers delivered judges ours.judge_bytes

  pub same_reach : (calls : List Call) (r : Run Group) → reach moves r calls ≡ reach ours r calls
  unfolding reach next
  same_reach [] r = refl
  same_reach (request kind n ∷ calls) r = same_reach calls (next ours r (request kind n))
  same_reach (close ∷ calls) r = same_reach calls (next ours r close)
  same_reach (read m s ∷ calls) r = same_reach calls r
  same_reach (count s ∷ calls) r = same_reach calls r
  same_reach (deliver m store out ∷ calls) r = same_reach calls r

  -- in after an odd number of events
  pub in_after : (story : List Turn) → all_fit begins story ≡ true → (side : Side) (n : ℕ) → n < range side
      → let x = tell_all begins story in in_on side (reach moves (start_fresh moves 0) (calls_of story)).group n ≡ not (even (length (strip_of side n x.closed x.events)))
  in_after story fine side n l =
      let calls = calls_of story in
      let r : Run Group = reach ours (start_fresh ours 0) calls in
      let here : in_on side r.group n ≡ not (even (length (strip_of side n r.closed r.events))) =
      subst (λ (y : Run Group). in_on side y.group n ≡ not (even (length (strip_of side n y.closed y.events)))) (sym (fresh_reach 0 calls))
      ((reached_agrees 0 (moving calls)).carried side n l).alternates in
      let told = stands ours 0 (fresh_gated 0) story fine in
      subst (λ (y : Run Group). in_on side y.group n ≡ not (even (length (strip_of side n (tell_all begins story).closed (tell_all begins story).events)))) (sym (same_reach calls (start_fresh ours 0)))
      (here ∙ ap₂ (λ (k : ℕ) (ws : List ℕ). not (even (length (strip_of side n k ws)))) told.0 told.1)
