-- What a model is answered, and what it sees next, depend on nothing but what it sees; a call that isn't shared shows it nothing. Assumes nothing.
use mathlib.Core.Path.{◌≡◌, refl, sym, ap, ap₂, ◌∙◌}
use mathlib.Core.Bool.{true, false, cond, false≢true}
use mathlib.Core.List.{List}
use mathlib.Core.Logic.{⊎_elim}
use Prim.Native.Nat.{ℕ, ◌<◌}
use native.Mathlib.Omega.{arith}
use lib.Dec.{eqb, leb}
use lib.ListN.{length, get_or}
use borrow.Author.Tests.{ltb-true, ltb-false, eqb-true, eqb-false, ne_eqb}
use Rattle.base.proofs.Table.{get_or_table}
use Rattle.base.proofs.Truth.{either, neither}
use Rattle.rules.specs.Kinds.{SA, LA, SR, LR, is_add, is_remove}
use Rattle.rules.specs.Ranges.{sheets, ticks}
use Rattle.rules.specs.Refusals.{no_tick_left}
use Rattle.event.specs.Carrier.{of_model}
use Rattle.group.specs.Fits.{Fits}
use Rattle.bits.specs.Granted.{granted}
use Rattle.group.specs.Read.{read_answer}
use Rattle.group.specs.Request.{request_answer}
use Rattle.group.specs.View.{View, view, view_refusal, view_request, view_close, view_read}
use Rattle.group.specs.declared.Group.{Group}
use Rattle.group.proofs.Accepted.{accepted}
use Rattle.group.proofs.Fits.{request_fits, close_fits}
use Rattle.group.proofs.Request.{request_refused}
use Rattle.group.proofs.View.{other_model, view_refusal_lem, view_request_lem, view_close_lem, view_close_code, view_read_lem}
use Rattle.delivery.specs.Agree.{Agree}
use Rattle.delivery.proofs.Agree.{same_answer, same_buffer}
use Rattle.demands.specs.Calls.{Call, request, close, read, count, deliver, coded, shown, delivered, answer_to, Run, next}
use Rattle.demands.specs.Alike.{for_sheet, shared}
use Rattle.demands.specs.Ours.{ours}

-- ---- whose request it is

-- a model's kind is no add and no remove
not_for_sheet : (kind : ℕ) → of_model kind ≡ true → for_sheet kind ≡ false
not_for_sheet kind t =
    let l : kind < SA = ltb-true _ _ t in
    simp (
      ne_eqb kind SA (λ e. absurd (omega arith)),
      ne_eqb kind LA (λ e. absurd (omega arith)),
      ne_eqb kind SR (λ e. absurd (omega arith)),
      ne_eqb kind LR (λ e. absurd (omega arith)),
    )

-- what is neither a sheet's kind nor a model's is above 7
no_kind : (kind : ℕ) → for_sheet kind ≡ false → of_model kind ≡ false → LR < kind
no_kind kind f o =
    let p = neither (is_add kind) (is_remove kind) f in
    let adds = neither (eqb kind SA) (eqb kind LA) p.0 in
    let removes = neither (eqb kind SR) (eqb kind LR) p.1 in
    let sa = eqb-false kind SA adds.0 in
    let la = eqb-false kind LA adds.1 in
    let sr = eqb-false kind SR removes.0 in
    let lr = eqb-false kind LR removes.1 in
    let from = ltb-false kind SA o in
    omega arith

module _ (m : ℕ) where
  -- a shared request of a model's kind is the model's own
  own : (kind n : ℕ) → shared m (request kind n) ≡ true → of_model kind ≡ true → n ≡ m
  unfolding shared
  own kind n s t = eqb-true n m (simp (not_for_sheet kind t) at s)

  -- ---- what isn't shared

  pub other_request : (g : Group) (kind n : ℕ) → shared m (request kind n) ≡ false → view m (request_answer g kind n).group ≡ view m g
  unfolding shared
  other_request g kind n f =
      let p = neither (for_sheet kind) (eqb n m) f in
      ⊎_elim
      (λ (t : of_model kind ≡ true). other_model m g kind n t (λ e. eqb-false n m p.1 (sym e)))
      (λ (o : of_model kind ≡ false).
      let above = no_kind kind p.0 o in
      ap (view m) (request_refused g kind n (λ e. omega (arith, (accepted g kind n e).known))))
      (either (of_model kind))

  -- ---- what is shared

  module _ (x y : Run Group) (alike : view m x.group ≡ view m y.group) where
    abbrev g : Group
    g = x.group

    abbrev h : Group
    h = y.group

    -- the model's bits are seen, so stores that agree on its grants in one group agree on those of the other
    bit_seen : (k : Group) (s : ℕ) → s < sheets → get_or (view m k).grants s false ≡ granted k.grants m s
    unfolding view
    bit_seen k s l = get_or_table sheets (λ s. granted k.grants m s) s false l

    same_bits : (s : ℕ) → s < sheets → granted g.grants m s ≡ granted h.grants m s
    same_bits s l = sym (bit_seen g s l) ∙ ap (λ (v : View). get_or v.grants s false) alike ∙ bit_seen h s l

    across : (b b' : List ℕ) → Agree g.grants g.grants m b b' → Agree g.grants h.grants m b b'
    across b b' a = record { bits = same_bits; long = a.long; header = a.header; offsets = a.offsets; lengths = a.lengths; bytes = a.bytes }

    self : (b : List ℕ) → Agree g.grants g.grants m b b
    self b = record {
      bits = λ s l. refl;
      long = refl;
      header = refl;
      offsets = λ s l t i. refl;
      lengths = λ s l t i. refl;
      bytes = λ s l t i. refl;
    }

    pub same_delivery : (b b' out : List ℕ) → Agree g.grants g.grants m b b' → answer_to ours g (deliver m b out) ≡ answer_to ours h (deliver m b' out)
    unfolding answer_to
    same_delivery b b' out a =
        let both = across b b' a in
        ap₂ delivered (same_answer g.grants h.grants m b b' both (length out)) (same_buffer g.grants h.grants m b b' both out)

    same_read : (s : ℕ) → read_answer g m s ≡ read_answer h m s
    same_read s = view_read_lem m g s ∙ ap (λ (v : View). view_read m v s) alike ∙ sym (view_read_lem m h s)

    pub same_answers : (c : Call) → shared m c ≡ true → answer_to ours g c ≡ answer_to ours h c
    unfolding shared answer_to
    same_answers (request kind n) t =
        ap coded (view_refusal_lem m g kind n (own kind n t) ∙ ap (λ (v : View). view_refusal v kind n) alike ∙ sym (view_refusal_lem m h kind n (own kind n t)))
    same_answers close t = ap coded (view_close_code m g ∙ ap (λ (v : View). cond (leb ticks v.closed) no_tick_left 0) alike ∙ sym (view_close_code m h))
    same_answers (read n s) t = rw (eqb-true n m t) (ap shown (same_read s))
    same_answers (count s) t = absurd (false≢true t)
    same_answers (deliver n store out) t = rw (eqb-true n m t) (same_delivery store store out (self store))

    pub same_after : Fits g → Fits h → (c : Call) → shared m c ≡ true → view m (next ours x c).group ≡ view m (next ours y c).group
    unfolding next
    same_after zg zh (request kind n) t =
        view_request_lem m g kind n (own kind n t) ∙ ap (λ (v : View). view_request m v kind n) alike ∙ sym (view_request_lem m h kind n (own kind n t))
    same_after zg zh close t = view_close_lem m g zg ∙ ap view_close alike ∙ sym (view_close_lem m h zh)
    same_after zg zh (read n s) t = alike
    same_after zg zh (count s) t = alike
    same_after zg zh (deliver n store out) t = alike

-- every group that calls reach from one that a machine holds is one that it holds
pub next_fits : (r : Run Group) → Fits r.group → (c : Call) → Fits (next ours r c).group
unfolding next
next_fits r z (request kind n) = request_fits r.group kind n z
next_fits r z close = close_fits r.group z
next_fits r z (read n s) = z
next_fits r z (count s) = z
next_fits r z (deliver n store out) = z
