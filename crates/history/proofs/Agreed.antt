-- A group beside the events that it accepted: its words fit, its carriers stand beside their strips, and its memberships and grants are the
-- formula's over these strips. True of a fresh group, and kept by every call. Assumes nothing.
use mathlib.Core.Path.{◌≡◌, refl, sym, ap, ◌∙◌, subst}
use mathlib.Core.Bool.{Bool, true, false, not, ◌&&◌, ◌||◌, or-false, or-true, and_comm}
use mathlib.Core.Logic.{⊎_elim}
use mathlib.Core.List.{List, [], ◌∷◌, ◌++◌}
use Prim.Native.Nat.{ℕ, suc, ◌≤◌, ◌<◌, ◌^◌}
use native.Mathlib.Numerals.{add-one}
use native.Mathlib.Omega.{arith}
use lib.Dec.{eqb, leb}
use lib.ListN.{length, get_or}
use borrow.Author.Tests.{eqb-true, eqb-false, leb-false}
use Rattle.base.proofs.Truth.{either}
use Rattle.rules.specs.Kinds.{LJ, SL, SA, LA, SR, LR, is_add, is_remove}
use Rattle.rules.specs.Ranges.{models, sheets, groups, ticks}
use Rattle.bits.specs.Bit.{bit_in}
use Rattle.event.specs.Word.{word_of, tick_of, kind_of, number_of}
use Rattle.event.proofs.Word.{tick_word, kind_word, number_word}
use Rattle.formula.specs.Formula.{History}
use Rattle.formula.specs.Ticks.{inside, liberal, by_add, by_join, grant}
use Rattle.formula.proofs.Move.{inside_start, inside_moves, inside_same, liberal_start, liberal_moves, liberal_same, grant_start, grant_moves, grant_same}
use Rattle.strip.specs.declared.Side.{Side}
use Rattle.strip.specs.declared.Side.TheVariants.{Model, Sheet}
use Rattle.strip.specs.Good.{range}
use Rattle.strip.specs.History.{history_of}
use Rattle.strip.proofs.Append.{each_more}
use Rattle.group.specs.Accepted.{RequestAccepted}
use Rattle.event.specs.Carrier.{carriers}
use Rattle.group.specs.Close.{closed_group}
use Rattle.group.specs.Fits.{Fits}
use Rattle.group.specs.Fresh.{fresh_group, fresh_answer}
use Rattle.group.specs.Marks.{model_in, sheet_in_by_la}
use Rattle.bits.specs.Granted.{granted}
use Rattle.group.specs.Request.{request_refusal, marked_group}
use Rattle.group.specs.declared.Group.{Group}
use Rattle.group.proofs.Accepted.{accepted}
use Rattle.event.proofs.Carrier.{sheet_number}
use Rattle.group.proofs.Close.{closed_granted, closed_sheet_in_by_la, closed_closed, close_cases}
use Rattle.group.proofs.Fits.{fresh_fits, marked_fits, closed_fits}
use Rattle.group.proofs.Fresh.{fresh_model_in, fresh_sheet_in_by_la, fresh_granted}
use Rattle.group.proofs.Quiet.{fresh_unmarked}
use Rattle.group.proofs.Request.{request_code, request_refused, request_accepted}
use Rattle.history.specs.Run.{Move, request, close, Reached, step, run, fresh, reached}
use Rattle.strip.specs.Strips.{strip_of}
use Rattle.history.proofs.Strips.{strip_later}
use Rattle.history.proofs.Sides.{stays, in_fresh, in_closed}
use Rattle.history.proofs.Carried.{Carried, carried_marks, carried_before, fresh_carried}
use Rattle.history.proofs.Closes.{close_carried}
use Rattle.history.proofs.Requests.{request_carried}

-- the history of a carrier up to tick t, of the events ws
abbrev pub told : Side → ℕ → ℕ → List ℕ → History
told side n t ws = history_of (strip_of side n t ws)

-- a word of an event in the ticks up to the open one, t + 1, of a carrier in range
pub record Ranged (t w : ℕ) : Type 0 where
  pub from : 1 ≤ tick_of w
  pub upto : tick_of w ≤ suc t
  pub number : number_of w < carriers (kind_of w)

pub record Agreed (g : Group) (t : ℕ) (ws : List ℕ) : Type 0 where
  pub fits : Fits g
  pub tick : g.closed ≡ t
  pub limit : t ≤ ticks
  pub words : (i : ℕ) → i < length ws → Ranged t (get_or ws i 0)
  pub carried : (side : Side) (n : ℕ) → n < range side → Carried g t ws side n
  pub insides : (m : ℕ) → m < models → model_in g m ≡ inside (told Model m t ws) t
  pub liberals : (s : ℕ) → s < sheets → sheet_in_by_la g s ≡ liberal (told Sheet s t ws) t
  pub grants : (m s : ℕ) → m < models → s < sheets → granted g.grants m s ≡ grant (told Model m t ws) (told Sheet s t ws) t

-- ---- fresh

fresh_agreed : (k : ℕ) → k < 2 ^ 32 → Agreed (fresh_group k) 0 []
unfolding fresh_group
fresh_agreed k h = record {
  fits = fresh_fits k h;
  tick = refl;
  limit = omega arith;
  words = λ i l. absurd (omega arith);
  carried = λ side n l. fresh_carried (fresh_group k) side n (fresh_unmarked k) (in_fresh k side n);
  insides = λ m l. fresh_model_in k m ∙ sym (inside_start _);
  liberals = λ s l. fresh_sheet_in_by_la k s ∙ sym (liberal_start _);
  grants = λ m s l b. fresh_granted k m s ∙ sym (grant_start _ _);
}

-- ---- a request

module _ (g : Group) (t : ℕ) (ws : List ℕ) (a : Agreed g t ws) (kind n : ℕ) (r : RequestAccepted g kind n) where
  abbrev new : ℕ
  new = word_of (suc t) kind n

  n_small : n < 512
  n_small = omega (arith, sheet_number kind n r.ranged)

  new_tick : tick_of new ≡ suc t
  new_tick = tick_word (suc t) kind n r.known n_small

  new_ranged : Ranged t new
  new_ranged = record {
    from = omega (arith, new_tick);
    upto = omega (arith, new_tick);
    number = rw (number_word (suc t) kind n r.known n_small, kind_word (suc t) kind n r.known n_small) r.ranged;
  }

  -- the event is later than the ticks closed
  unseen : (side : Side) (i : ℕ) → strip_of side i t (ws ++ (new ∷ [])) ≡ strip_of side i t ws
  unseen side i = strip_later side i ws t new (omega (arith, new_tick))

  marked_agreed : Agreed (marked_group g kind n) t (ws ++ (new ∷ []))
  unfolding marked_group bit_in
  marked_agreed = record {
    fits = marked_fits g kind n a.fits r.ranged;
    tick = a.tick;
    limit = a.limit;
    words = each_more ws new (Ranged t) a.words new_ranged;
    carried = λ side i l. request_carried g a.fits t ws kind n r.known r.ranged r side i (a.carried side i l);
    insides = λ m l. rw (unseen Model m) (a.insides m l);
    liberals = λ s l. rw (unseen Sheet s) (a.liberals s l);
    grants = λ m s l b. rw (unseen Model m, unseen Sheet s) (a.grants m s l b);
  }

-- ---- a close

-- what is kept, made by an add, made by a join: in the gate's order and in the formula's
regroup : (sr sl was x y : Bool) → not sr && (was && not sl) || x || y ≡ x || y || (not (sl || sr) && was)
regroup true true was x y = sym (or-false (x || y))
regroup true false was x y = sym (or-false (x || y))
regroup false true true x y = sym (or-false (x || y))
regroup false true false x y = sym (or-false (x || y))
regroup false false true x y = sym (or-true (x || y))
regroup false false false x y = sym (or-false (x || y))

module _ (g : Group) (t : ℕ) (ws : List ℕ) (a : Agreed g t ws) where
  closed_inside : (m : ℕ) → m < models → model_in (closed_group g) m ≡ inside (told Model m (suc t) ws) (suc t)
  closed_inside m l =
      let c = a.carried Model m l in
      let M = told Model m (suc t) ws in
      in_closed g a.fits Model m (M (suc t)) l (carried_marks g t ws Model m l c)
      ∙ rw (a.insides m l, inside_moves M t, inside_same M (told Model m t ws) t (carried_before g t ws Model m l c))

  closed_liberal_lem : (s : ℕ) → s < sheets → sheet_in_by_la (closed_group g) s ≡ liberal (told Sheet s (suc t) ws) (suc t)
  closed_liberal_lem s l =
      let c = a.carried Sheet s l in
      let S = told Sheet s (suc t) ws in
      let h = carried_marks g t ws Sheet s l c in
      closed_sheet_in_by_la g a.fits s l
      ∙ simp (h LA (omega arith) refl, h SR (omega arith) refl, h LR (omega arith) refl) (
      stays (sheet_in_by_la g s) (is_remove (S (suc t))) (eqb (S (suc t)) LA)
      ∙ rw (a.liberals s l, liberal_moves S t, liberal_same S (told Sheet s t ws) t (carried_before g t ws Sheet s l c)))

  closed_grant : (m s : ℕ) → m < models → s < sheets → granted (closed_group g).grants m s ≡ grant (told Model m (suc t) ws) (told Sheet s (suc t) ws) (suc t)
  unfolding by_add by_join
  closed_grant m s l b =
      let cm = a.carried Model m l in
      let cs = a.carried Sheet s b in
      let M = told Model m (suc t) ws in
      let S = told Sheet s (suc t) ws in
      let hm = carried_marks g t ws Model m l cm in
      let hs = carried_marks g t ws Sheet s b cs in
      let was = grant_same M (told Model m t ws) S (told Sheet s t ws) t (carried_before g t ws Model m l cm) (carried_before g t ws Sheet s b cs) in
      let join = eqb (M (suc t)) LJ in
      let by_joins = liberal S (suc t) && join in
      closed_granted g a.fits m s b
      ∙ simp (
        hm LJ (omega arith) refl,
        hm SL (omega arith) refl,
        hs SA (omega arith) refl,
        hs LA (omega arith) refl,
        hs SR (omega arith) refl,
        a.grants m s l b,
        closed_inside m l,
        closed_liberal_lem s b,
        sym was,
      ) (
      regroup (eqb (S (suc t)) SR) (eqb (M (suc t)) SL) (grant M S t) (is_add (S (suc t)) && inside M (suc t)) by_joins
      ∙ rw (grant_moves M S t, and_comm join (liberal S (suc t))))

  closed_agreed : t < ticks → Agreed (closed_group g) (suc t) ws
  closed_agreed h = record {
    fits = closed_fits g a.fits (rw a.tick h);
    tick = closed_closed g ∙ add-one g.closed ∙ ap suc a.tick;
    limit = h;
    words = λ i l. let w = a.words i l in record { from = w.from; upto = omega (arith, w.upto); number = w.number };
    carried = λ side n l. close_carried g a.fits side n t l ws (λ i h. (a.words i h).upto) (a.carried side n l);
    insides = closed_inside;
    liberals = closed_liberal_lem;
    grants = closed_grant;
  }

-- ---- runs

abbrev pub Agrees : Reached → Type 0
Agrees r = Agreed r.group r.group.closed r.events

-- the tick of a group that agrees is its own
own_tick : (g : Group) (t : ℕ) (ws : List ℕ) → Agreed g t ws → Agreed g g.closed ws
own_tick g t ws a = subst (λ (x : ℕ). Agreed g x ws) (sym a.tick) a

fresh_agrees : (number : ℕ) → Agrees (fresh number)
unfolding fresh_answer
fresh_agrees number = ⊎_elim
    (λ (y : leb groups number ≡ true). simp y (own_tick (fresh_group 0) 0 [] (fresh_agreed 0 (omega arith))))
    (λ (f : leb groups number ≡ false). simp f (own_tick (fresh_group number) 0 [] (fresh_agreed number (omega (arith, leb-false groups number f)))))
    (either (leb groups number))

request_agrees : (r : Reached) (kind n : ℕ) → Agrees r → Agrees (step (request kind n) r)
unfolding step
request_agrees r kind n a =
    let g = r.group in
    ⊎_elim
    (λ (y : eqb (request_refusal g kind n) 0 ≡ true).
    let none = eqb-true _ _ y in
    simp (request_code g kind n, y, request_accepted g kind n none, add-one) (own_tick _ _ _ (marked_agreed g g.closed r.events a kind n (accepted g kind n none))))
    (λ (f : eqb (request_refusal g kind n) 0 ≡ false). simp (request_code g kind n, f, request_refused g kind n (eqb-false _ _ f)) a)
    (either (eqb (request_refusal g kind n) 0))

close_agrees : (r : Reached) → Agrees r → Agrees (step close r)
unfolding step
close_agrees r a = close_cases r.group (λ h. Agreed h h.closed r.events) a
    (λ l. own_tick (closed_group r.group) (suc r.group.closed) r.events (closed_agreed r.group r.group.closed r.events a l))

pub run_agrees : (calls : List Move) (r : Reached) → Agrees r → Agrees (run calls r)
unfolding run
run_agrees [] r a = a
run_agrees (request kind n ∷ calls) r a = run_agrees calls (step (request kind n) r) (request_agrees r kind n a)
run_agrees (close ∷ calls) r a = run_agrees calls (step close r) (close_agrees r a)

-- every group reached agrees with the events that it accepted
pub reached_agrees : (number : ℕ) (calls : List Move) → Agrees (reached number calls)
reached_agrees number calls = run_agrees calls (fresh number) (fresh_agrees number)
