-- An accepted request keeps every carrier beside its strip; and a request is accepted exactly where its event keeps the strip good. Assumes nothing.
use mathlib.Core.Path.{◌≡◌, refl, sym, ap, ◌∙◌, subst}
use mathlib.Core.Bool.{true, false, not, ◌&&◌, or-false, and-true, false≢true, not-not}
use mathlib.Core.Logic.{⊎_elim, ◌↔◌}
use mathlib.Core.List.{List, [], ◌∷◌, ◌++◌}
use Prim.Native.Nat.{ℕ, suc, ◌≤◌, ◌<◌}
use native.Mathlib.Omega.{arith}
use lib.Dec.{eqb}
use lib.ListN.{length}
use borrow.Author.Tests.{eqb-true, eq-eqb}
use Rattle.base.proofs.Truth.{either, both}
use Rattle.rules.specs.Kinds.{LR, quiet}
use Rattle.rules.specs.Ranges.{ticks}
use Rattle.event.specs.Word.{word_of, tick_of, kind_of, number_of}
use Rattle.event.proofs.Word.{tick_word, kind_word, number_word}
use Rattle.strip.specs.declared.Side.{Side}
use Rattle.strip.specs.declared.Side.TheVariants.{Model, Sheet}
use Rattle.strip.specs.Good.{range, turn, tick_before, Good}
use Rattle.strip.proofs.Append.{good_end, before_end}
use Rattle.group.specs.Accepted.{RequestAccepted}
use Rattle.event.specs.Carrier.{carriers, entering}
use Rattle.group.specs.Fits.{Fits}
use Rattle.group.specs.Marks.{model_marked, sheet_marked, carrier_in, model_in, sheet_in}
use Rattle.group.specs.Request.{marked_group}
use Rattle.group.specs.declared.Group.{Group}
use Rattle.event.proofs.Carrier.{sheet_number}
use Rattle.group.proofs.Request.{mark_marked}
use Rattle.strip.specs.Strips.{carried_by, strip_of}
use Rattle.history.proofs.Strips.{strip_later, strip_other, strip_own}
use Rattle.history.proofs.Sides.{by_kind, of_side, even, turn_is, turn_side, same_turn, in_on, marked_on, carriers_range, carried_is, carried_parts, Marks, known, known_side, marked_known}
use Rattle.history.proofs.Carried.{Open, idle, event, Carried, carried_good, not_quiet}

known_quiet : (side : Side) → known side quiet ≡ false
known_quiet Model = refl
known_quiet Sheet = refl

-- the carrier has no event in the open tick
free : (g : Group) (side : Side) (n t : ℕ) (s w : List ℕ) → marked_on side g n ≡ false → Open g side n t s w → Marks g side n quiet × (w ≡ s)
free g side n t s w f (idle m e) = (m, e)
free g side n t s w f (event k h turns m e) =
    absurd (false≢true (sym f ∙ marked_known g side n k m ∙ known_side side k h ∙ turn_side side (length s) k h turns))

in_marked : (g : Group) (kind n : ℕ) (side : Side) (i : ℕ) → in_on side (marked_group g kind n) i ≡ in_on side g i
unfolding marked_group
in_marked g kind n Model i = refl
in_marked g kind n Sheet i = refl

module _ (g : Group) (z : Fits g) (t : ℕ) (ws : List ℕ) (kind n : ℕ) (lawful : kind ≤ LR) (ranged : n < carriers kind) where
  abbrev new : ℕ
  new = word_of (suc t) kind n

  n_small : n < 512
  n_small = omega (arith, sheet_number kind n ranged)

  new_tick : tick_of new ≡ suc t
  new_tick = tick_word (suc t) kind n lawful n_small

  new_kind : kind_of new ≡ kind
  new_kind = kind_word (suc t) kind n lawful n_small

  new_number : number_of new ≡ n
  new_number = number_word (suc t) kind n lawful n_small

  new_carried : (side : Side) (i : ℕ) → of_side side kind ≡ true → n ≡ i → carried_by side i new ≡ true
  new_carried side i e q = carried_is side i new ∙ simp (new_kind, new_number, e, eq-eqb n i q)

  -- another carrier's marks stay
  marks_other : (side : Side) (i o : ℕ) → carried_by side i new ≡ false → Marks g side i o → Marks (marked_group g kind n) side i o
  marks_other side i o f m k h e =
      let apart : eqb kind k && eqb i n ≡ false = ⊎_elim
      (λ y.
      let p = both (eqb kind k) (eqb i n) y in
      absurd (false≢true (sym f ∙ new_carried side i (ap (of_side side) (eqb-true kind k p.0) ∙ e) (sym (eqb-true i n p.1)))))
      (λ x. x)
      (either (eqb kind k && eqb i n)) in
      mark_marked g kind n z ranged k i h ∙ simp (apart, or-false) (m k h e)

  -- the carrier's own mark is set
  marks_own : (side : Side) → Marks g side n quiet → Marks (marked_group g kind n) side n kind
  marks_own side m k h e = mark_marked g kind n z ranged k n h ∙ simp (m k h e, sym (not_quiet k h), eq-eqb n n refl, and-true)

  keeps_other : (side : Side) (i : ℕ) → carried_by side i new ≡ false → Carried g t ws side i → Carried (marked_group g kind n) t (ws ++ (new ∷ [])) side i
  keeps_other side i f c = record {
    good = rw (strip_other side i ws t new f) c.good;
    alternates = rw (strip_other side i ws t new f) (in_marked g kind n side i ∙ c.alternates);
    tick = rw (strip_other side i ws t new f, strip_other side i ws (suc t) new f) (kept_open c.tick);
  }
    where
      kept_open : {s w : List ℕ} → Open g side i t s w → Open (marked_group g kind n) side i t s w
      kept_open (idle m e) = idle (marks_other side i quiet f m) e
      kept_open (event k h turns m e) = event k h turns (marks_other side i k f m) e

  module _ (side : Side) (e : of_side side kind ≡ true) where
    -- it is the kind's turn exactly when the carrier is out for a join or add, and in for a leave or remove
    turn_free : (place : ℕ) → in_on side g n ≡ not (even place) → (turn side place kind ≡ true) ↔ (carrier_in g kind n ≡ not (entering kind))
    turn_free place i =
        let looked : carrier_in g kind n ≡ not (even place) = by_kind side kind (model_in g n) (sheet_in g n) e ∙ i in
        let same = same_turn (even place) (entering kind) in (
          λ x. looked ∙ ap not (same.0 (sym (turn_is side place kind lawful e) ∙ x)),
          λ y. turn_is side place kind lawful e ∙ same.1 (sym (not-not (even place)) ∙ ap not (sym looked ∙ y) ∙ not-not (entering kind)),
        )

    keeps_own : RequestAccepted g kind n → Carried g t ws side n → Carried (marked_group g kind n) t (ws ++ (new ∷ [])) side n
    keeps_own a c =
        let marked : marked_on side g n ≡ false = sym (by_kind side kind (model_marked g n) (sheet_marked g n) e) ∙ a.first in
        let f = free g side n t (strip_of side n t ws) (strip_of side n (suc t) ws) marked c.tick in
        let still = strip_later side n ws t new (omega (arith, new_tick)) in
        let grown = strip_own side n ws (suc t) new (new_carried side n e refl) (omega (arith, new_tick)) in
        record {
          good = rw still c.good;
          alternates = rw still (in_marked g kind n side n ∙ c.alternates);
          tick = rw (still, grown, f.1) (event kind lawful ((turn_free (length (strip_of side n t ws)) c.alternates).1 a.alternates) (marks_own side f.0) refl);
        }

    -- the strip of an accepted request's carrier is good with the event at its end
    pub accepted_good : RequestAccepted g kind n → Carried g t ws side n → Good side (suc t) (strip_of side n (suc t) ws ++ (new ∷ []))
    accepted_good a c =
        let l : n < range side = rw (carriers_range side kind e) at ranged in
        rw (strip_own side n ws (suc t) new (new_carried side n e refl) (omega (arith, new_tick))) at
        (carried_good (marked_group g kind n) t (ws ++ (new ∷ [])) side n l (keeps_own a c))

  -- an accepted request keeps every carrier
  pub request_carried : RequestAccepted g kind n → (side : Side) (i : ℕ) → Carried g t ws side i → Carried (marked_group g kind n) t (ws ++ (new ∷ [])) side i
  request_carried a side i c = ⊎_elim
      (λ y.
      let p = carried_parts side i new y in
      let q : n ≡ i = sym new_number ∙ p.1 in
      subst (λ (x : ℕ). Carried (marked_group g kind n) t (ws ++ (new ∷ [])) side x) q
      (keeps_own side (sym (ap (of_side side) new_kind) ∙ p.0) a (subst (λ (x : ℕ). Carried g t ws side x) (sym q) c)))
      (λ f. keeps_other side i f c)
      (either (carried_by side i new))

  -- a request that keeps the strip good is accepted
  pub good_accepted : (side : Side) → Carried g t ws side n → g.closed < ticks → Good side (suc t) (strip_of side n (suc t) ws ++ (new ∷ [])) → RequestAccepted g kind n
  good_accepted side c h good =
      let s = strip_of side n t ws in
      let w = strip_of side n (suc t) ws in
      let f = good_end w new side (suc t) good in
      let turns : turn side (length w) kind ≡ true = sym (ap (turn side (length w)) new_kind) ∙ f.turns in
      let e : of_side side kind ≡ true = turn_side side (length w) kind lawful turns in
      let r = idle_before c.tick (omega (arith, f.rises, new_tick)) in
      record {
        known = lawful;
        ranged = ranged;
        tick = h;
        first = by_kind side kind (model_marked g n) (sheet_marked g n) e ∙ marked_known g side n quiet r.0 ∙ known_quiet side;
        alternates = (turn_free side e (length s) c.alternates).0 (sym (ap (λ (x : List ℕ). turn side (length x) kind) r.1) ∙ turns);
      }
    where
      idle_before : {s w : List ℕ} → Open g side n t s w → tick_before w (length w) ≤ t → Marks g side n quiet × (w ≡ s)
      idle_before (idle m e) b = (m, e)
      idle_before {s} (event k h turns m e) b =
          absurd (omega (arith, ap (λ (x : List ℕ). tick_before x (length x)) e ∙ before_end s (word_of (suc t) k n) ∙ tick_word (suc t) k n h n_small))
