-- Two groups that look alike to a model give it the same answers in runs that are alike. Assumes nothing.
use mathlib.Core.Path.{◌≡◌, refl, sym, ap, ap₂, ◌∙◌, subst}
use mathlib.Core.Bool.{true, false}
use mathlib.Core.List.{List, [], ◌∷◌, ◌++◌}
use mathlib.Core.Logic.{⊎_elim}
use Prim.Native.Nat.{ℕ, ◌≤◌, ◌<◌}
use lib.Dec.{leb}
use lib.ListN.{length}
use borrow.Author.Tests.{eq-eqb, leb-true, leb-false}
use Rattle.base.proofs.Truth.{either}
use Rattle.rules.specs.Ranges.{models, sheets}
use Rattle.rules.specs.Refusals.{bad_number}
use Rattle.bits.specs.Granted.{granted}
use Rattle.group.specs.Fits.{Fits}
use Rattle.group.specs.View.{view}
use Rattle.group.specs.declared.Group.{Group}
use Rattle.parts.specs.Delivery.{delivery_of, granted_sheets}
use Rattle.delivery.specs.Agree.{Agree}
use Rattle.delivery.specs.Answer.{written}
use Rattle.delivery.specs.Delivery.{Delivery, Refused}
use Rattle.delivery.proofs.Answer.{answer_number}
use Rattle.history.proofs.Answers.{read_granted}
use Rattle.demands.specs.Calls.{Call, deliver, delivered, answer_to, Run, start_fresh, next, reach}
use Rattle.demands.specs.Alike.{shared, answers_of, Agreeing, Alike, done, both, stores, left, right}
use Rattle.demands.specs.Gated.{Granting, Gated}
use Rattle.demands.specs.Ours.{ours}
use Rattle.demands.proofs.Gates.{fresh_gated}
use Rattle.demands.proofs.Unseen.{unseen}
use Rattle.demands.proofs.Seen.{same_answers, same_after, same_delivery, next_fits}

-- ---- somewhere on a run from a fresh group

abbrev pub Reaches : ℕ → Run Group → Type 0
Reaches number r = (calls : List Call) × (reach ours (start_fresh ours number) calls ≡ r)

pub reached_start : (number : ℕ) → Reaches number (start_fresh ours number)
unfolding reach
reached_start number = ([], refl)

reach_more : (calls : List Call) (c : Call) (r : Run Group) → reach ours r (calls ++ (c ∷ [])) ≡ next ours (reach ours r calls) c
unfolding reach
reach_more [] c r = refl
reach_more (d ∷ calls) c r = reach_more calls c (next ours r d)

reached_next : (number : ℕ) (r : Run Group) (c : Call) → Reaches number r → Reaches number (next ours r c)
reached_next number r c x = (x.0 ++ (c ∷ []), reach_more x.0 c (start_fresh ours number) ∙ ap (λ (y : Run Group). next ours y c) x.1)

-- ---- a delivery to the model

module _ (m : ℕ) where
  -- stores that agree on what the formula grants agree on what the group's record grants
  agree : (number : ℕ) (r : Run Group) → Reaches number r → m < models → (b b' : List ℕ) → Agreeing (Granting r m) b b'
      → Agree r.group.grants r.group.grants m b b'
  agree number r x l b b' a =
      let gated : Gated ours r = subst (Gated ours) x.1 (fresh_gated number x.0) in
      let says : (s : ℕ) → s < sheets → granted r.group.grants m s ≡ true → Granting r m s =
      λ s h t. (gated.read m s l h).0 ((read_granted r.group m s l h).1 t) in
      record {
        bits = λ s h. refl;
        long = a.long;
        header = a.header;
        offsets = λ s h t. a.offsets s h (says s h t);
        lengths = λ s h t. a.lengths s h (says s h t);
        bytes = λ s h t. a.bytes s h (says s h t);
      }

  -- whom the gate doesn't know it refuses, whatever the store
  unknown : (g : Group) (b out : List ℕ) → models ≤ m → answer_to ours g (deliver m b out) ≡ delivered (Refused bad_number 0) out
  unfolding answer_to
  unknown g b out h =
      let e = answer_number g.grants m b (length out) h in
      ap₂ delivered e (ap (λ (a : Delivery). written a (delivery_of b (granted_sheets g.grants m)) out) e)

  alike_delivery : (number : ℕ) (x y : Run Group) → Reaches number x → view m x.group ≡ view m y.group → (b b' out : List ℕ)
      → Agreeing (Granting x m) b b' → answer_to ours x.group (deliver m b out) ≡ answer_to ours y.group (deliver m b' out)
  alike_delivery number x y reaches e b b' out a = ⊎_elim
      (λ (t : leb models m ≡ true). unknown x.group b out (leb-true _ _ t) ∙ sym (unknown y.group b' out (leb-true _ _ t)))
      (λ (f : leb models m ≡ false). same_delivery m x y e b b' out (agree number x reaches (leb-false _ _ f) b b' a))
      (either (leb models m))

-- ---- the answers of a run, call by call

module _ (m : ℕ) (r : Run Group) (c : Call) (calls : List Call) where
  answers_shared : shared m c ≡ true → answers_of ours m r (c ∷ calls) ≡ answer_to ours r.group c ∷ answers_of ours m (next ours r c) calls
  unfolding answers_of
  answers_shared t = simp t

  answers_other : shared m c ≡ false → answers_of ours m r (c ∷ calls) ≡ answers_of ours m (next ours r c) calls
  unfolding answers_of
  answers_other f = simp f

-- a delivery to the model is shared, and leaves the run where it stands
answers_delivery : (m : ℕ) (r : Run Group) (store out : List ℕ) (calls : List Call)
    → answers_of ours m r (deliver m store out ∷ calls) ≡ answer_to ours r.group (deliver m store out) ∷ answers_of ours m r calls
unfolding shared next
answers_delivery m r store out calls = answers_shared m r (deliver m store out) calls (eq-eqb m m refl)

-- They go on looking alike.
pub answers_alike : (m number : ℕ) {x : Run Group} {calls calls' : List Call} → Alike ours m x calls calls' → Reaches number x → (y : Run Group)
    → Fits x.group → Fits y.group → view m x.group ≡ view m y.group → answers_of ours m x calls ≡ answers_of ours m y calls'
unfolding answers_of
answers_alike m number done reaches y zx zy e = refl
answers_alike m number (both {r} {c} {calls} {calls'} s a) reaches y zx zy e =
    answers_shared m r c calls s
    ∙ ap₂ ◌∷◌ (same_answers m r y e c s)
    (answers_alike m number a (reached_next number r c reaches) (next ours y c) (next_fits r zx c) (next_fits y zy c) (same_after m r y e zx zy c s))
    ∙ sym (answers_shared m y c calls' s)
answers_alike m number (stores {r} {store} {store'} {out} {calls} {calls'} agrees a) reaches y zx zy e =
    answers_delivery m r store out calls
    ∙ ap₂ ◌∷◌ (alike_delivery m number r y reaches e store store' out agrees) (answers_alike m number a reaches y zx zy e)
    ∙ sym (answers_delivery m y store' out calls')
answers_alike m number (left {r} {c} {calls} s a) reaches y zx zy e =
    answers_other m r c calls s ∙ answers_alike m number a (reached_next number r c reaches) y (next_fits r zx c) zy (unseen m r c s ∙ e)
answers_alike m number (right {r} {c} {calls} {calls'} s a) reaches y zx zy e =
    answers_alike m number a reaches (next ours y c) zx (next_fits y zy c) (e ∙ sym (unseen m y c s)) ∙ sym (answers_other m y c calls' s)
