-- A group beside its accepted events in book order: they are well-formed up to the open tick, what the group knows of a carrier is what its last word
-- says, and those of closed ticks stand in front. True of a fresh group, and kept by every accepted call. Assumes nothing.
use mathlib.Core.Path.{◌≡◌, refl, sym, ap, ◌∙◌, subst}
use mathlib.Core.Bool.{Bool, true, false, cond, not, true≢false}
use mathlib.Core.List.{List, [], ◌∷◌}
use mathlib.Core.Logic.{⊎_elim}
use Prim.Native.Nat.{ℕ, zero, suc, ◌+◌, ◌-◌, ◌≤◌, ◌<◌}
use native.Mathlib.Nat.{eq-or-lt_of_le, eq-zero-or-pos}
use native.Mathlib.Omega.{arith}
use lib.Dec.{eqb, leb}
use lib.ListN.{length, get_or, take, drop, take-append-drop, length-take}
use lib.Seq.{get_or-take, take-length}
use borrow.Author.Tests.{eqb-false, eq-eqb, ne_eqb, leb-true, le-leb, lt-leb}
use Rattle.base.proofs.Truth.{either}
use Rattle.rules.specs.Ranges.{ticks}
use Rattle.event.specs.Word.{tick_of, kind_of, number_of}
use Rattle.strip.specs.declared.Side.{Side}
use Rattle.strip.specs.Good.{range}
use Rattle.group.specs.Accepted.{RequestAccepted}
use Rattle.event.specs.Carrier.{of_model, entering}
use Rattle.group.specs.Close.{closed_group}
use Rattle.group.specs.Fits.{Fits}
use Rattle.group.specs.Fresh.{fresh_answer}
use Rattle.group.specs.Marks.{model_marked, sheet_marked, model_in, sheet_in}
use Rattle.group.specs.Request.{marked_group}
use Rattle.group.specs.declared.Group.{Group}
use Rattle.group.proofs.Fits.{fresh_answer_fits, marked_fits, closed_fits}
use Rattle.base.specs.Keep.{keep}
use Rattle.history.specs.WellFormed.{side_of}
use Rattle.base.proofs.Keep.{keep_append, keep_all, kept}
use Rattle.history.proofs.Carried.{small}
use Rattle.history.proofs.Sides.{of_side, by_kind, carriers_range, Marks, known_side, marked_known}
use Rattle.records.specs.Records.{carrier_of, last_of, stands_in, breaks, WellFormedRecords}
use Rattle.replay.specs.Replay.{counted}
use Rattle.replay.proofs.Carriers.{code_of, own_code, Known, start_known, close_known, mark_known}
use Rattle.records.proofs.Pass.{Inside, good, formed_rises}
use Rattle.tick.proofs.Part.{climb}
use Rattle.insert.specs.Inserted.{inserted}
use Rattle.insert.proofs.Among.{place, place_behind, place_from_lem, take_inserted}
use Rattle.saved.specs.Saved.{up_to}
use Rattle.saved.proofs.Lasts.{last_all}
use Rattle.saved.proofs.Formed.{formed_later, formed_inserted}

pub record Ordered (g : Group) (ws : List ℕ) : Type 0 where
  pub fits : Fits g
  pub formed : WellFormedRecords (g.closed + 1) ws
  pub last_known : (side : Side) (n : ℕ) → n < range side → Known g side n (last_of ws (length ws) (code_of side n))
  pub front : take (length (up_to g.closed ws)) ws ≡ up_to g.closed ws

-- ---- fresh

pub fresh_ordered : (number : ℕ) → Ordered (fresh_answer number).group []
unfolding last_of keep
fresh_ordered number = record {
  fits = fresh_answer_fits number;
  formed = λ i h. absurd (omega arith);
  last_known = λ side n l. start_known number side n;
  front = refl;
}

-- ---- words that rise

-- no word of a carrier is later than its last
last_recent : (ws : List ℕ) (T : ℕ) → WellFormedRecords T ws → (c n k : ℕ) → n ≤ length ws → k < n → carrier_of (get_or ws k 0) ≡ c → get_or ws k 0 ≤ last_of ws n c
unfolding last_of
last_recent ws T f c zero k b h e = absurd (omega arith)
last_recent ws T f c (suc n) k b h e = ⊎_elim
    (λ (t : eqb (carrier_of (get_or ws n 0)) c ≡ true). simp t (climb ws (formed_rises T ws f) k n (omega arith) (omega arith)))
    (λ (q : eqb (carrier_of (get_or ws n 0)) c ≡ false). simp q (⊎_elim
    (λ (s : k ≡ n). absurd (eqb-false _ _ q (ap (λ (i : ℕ). carrier_of (get_or ws i 0)) (sym s) ∙ e)))
    (λ (m : k < n). last_recent ws T f c n k (omega arith) m e)
    (eq-or-lt_of_le (let l : k ≤ n = omega arith in l))))
    (either (eqb (carrier_of (get_or ws n 0)) c))

-- the words of closed ticks are no more than all, and stand where they stood
front_short : (p : ℕ → Bool) (ws : List ℕ) → take (length (keep p ws)) ws ≡ keep p ws → length (keep p ws) ≤ length ws
front_short p ws e = let l = length-take (length (keep p ws)) ws in omega (arith, ap length e)

-- ---- a request

-- a word that does not pass is not kept, wherever it stands
keep_inserted_off : (p : ℕ → Bool) (ws : List ℕ) (w : ℕ) → p w ≡ false → keep p (inserted ws w) ≡ keep p ws
unfolding inserted keep
keep_inserted_off p ws w f =
    keep_append p (take (place ws w) ws) (w ∷ drop (place ws w) ws)
    ∙ simp f (sym (keep_append p (take (place ws w) ws) (drop (place ws w) ws)))
    ∙ ap (keep p) (take-append-drop (place ws w) ws)

side_own : (kind : ℕ) → of_side (side_of kind) kind ≡ true
side_own kind = ⊎_elim
    (λ (t : of_model kind ≡ true). simp t)
    (λ (f : of_model kind ≡ false). simp f)
    (either (of_model kind))

takes_turns : (e : Bool) → cond e (not e) (not (not e)) ≡ false
takes_turns true = refl
takes_turns false = refl

module _ (g : Group) (ws : List ℕ) (o : Ordered g ws) (w : ℕ) (now : tick_of w ≡ g.closed + 1) (r : RequestAccepted g (kind_of w) (number_of w)) where
  abbrev side : Side
  side = side_of (kind_of w)

  own : of_side side (kind_of w) ≡ true
  own = side_own (kind_of w)

  abbrev last : ℕ
  last = last_of ws (length ws) (carrier_of w)

  -- what the group knows of the word's carrier
  mine : Known g side (number_of w) last
  mine =
      let l : number_of w < range side = rw (← carriers_range side (kind_of w) own) r.ranged in
      rw (own_code side w own) (o.last_known side (number_of w) l)

  -- it has no event in the open tick
  free : tick_of last ≡ g.closed + 1 → ⊥
  free e =
      let some : last ≡ 0 → ⊥ = λ z. omega arith in
      let event : Marks g side (number_of w) (kind_of last) = λ k h s. mine.marks k h s ∙ simp (eq-eqb (tick_of last) (g.closed + 1) e) in
      true≢false (
      sym (marked_known g side (number_of w) (kind_of last) event ∙ known_side side (kind_of last) (omega arith) ∙ mine.own some)
      ∙ sym (by_kind side (kind_of w) (model_marked g (number_of w)) (sheet_marked g (number_of w)) own)
      ∙ r.first)

  keeps : breaks last w ≡ false
  keeps =
      let before = mine.tick in
      let stands : stands_in last ≡ not (entering (kind_of w)) =
      sym (mine.inside (omega (arith, free))) ∙ sym (by_kind side (kind_of w) (model_in g (number_of w)) (sheet_in g (number_of w)) own) ∙ r.alternates in
      simp (ne_eqb (tick_of last) (tick_of w) (λ e. free (e ∙ now)), stands) (takes_turns (entering (kind_of w)))

  -- every other word of its carrier is of a closed tick
  earlier : (k : ℕ) → k < length ws → carrier_of (get_or ws k 0) ≡ carrier_of w → tick_of (get_or ws k 0) < g.closed + 1
  earlier k h e =
      let late = last_recent ws (g.closed + 1) o.formed (carrier_of w) (length ws) k (omega arith) h e in
      let before = mine.tick in
      omega (arith, free)

  alone : (k : ℕ) → place ws w ≤ k → k < length ws → carrier_of (get_or ws k 0) ≡ carrier_of w → ⊥
  alone k l h e =
      let later = place_from_lem ws w (length ws) k h l in
      omega (arith, earlier k h e)

  apart : (k : ℕ) → k < length ws → get_or ws k 0 ≡ w → ⊥
  apart k h e = omega (arith, earlier k h (ap carrier_of e), ap tick_of e)

  inside : Inside (g.closed + 1) w
  inside = record { from = omega arith; upto = omega arith; ranged = r.ranged }

  abbrev new : List ℕ
  new = inserted ws w

  new_known : (s : Side) (n : ℕ) → n < range s → Known (marked_group g (kind_of w) (number_of w)) s n (last_of new (length new) (code_of s n))
  new_known s n l = rw (last_all ws w alone (code_of s n))
      (mark_known g o.fits w r.ranged now s n (last_of ws (length ws) (code_of s n)) (small s n l) (o.last_known s n l)
      (λ e q. free (ap (λ (c : ℕ). tick_of (last_of ws (length ws) c)) e ∙ q ∙ now)))

  -- the closed ticks' words stand before it
  abbrev old : List ℕ
  old = up_to g.closed ws

  pub behind_closed : length old ≤ place ws w
  behind_closed = ⊎_elim
      (λ (z : length old ≡ zero). omega arith)
      (λ (some : zero < length old).
      let few = front_short (λ v. leb (tick_of v) g.closed) ws o.front in
      let same : get_or ws (length old - 1) 0 ≡ get_or old (length old - 1) 0 =
      sym (get_or-take (length old) ws (length old - 1) 0 (omega arith)) ∙ ap (λ (x : List ℕ). get_or x (length old - 1) 0) o.front in
      let past : tick_of (get_or old (length old - 1) 0) ≤ g.closed = leb-true _ _ (kept (λ v. leb (tick_of v) g.closed) ws (length old - 1) (omega arith)) in
      let b = place_behind ws w (length ws) (length old - 1) (omega arith) (omega arith) in
      omega arith)
      (eq-zero-or-pos (length old))

  pub closed_same : up_to g.closed new ≡ old
  closed_same = keep_inserted_off (λ v. leb (tick_of v) g.closed) ws w (lt-leb (tick_of w) g.closed (omega arith))

  pub request_ordered : Ordered (marked_group g (kind_of w) (number_of w)) new
  unfolding marked_group
  request_ordered = record {
    fits = marked_fits g (kind_of w) (number_of w) o.fits r.ranged;
    formed = formed_inserted (g.closed + 1) ws w o.formed inside alone apart keeps;
    last_known = new_known;
    front = rw closed_same (take_inserted ws w (length old) behind_closed ∙ o.front);
  }

-- ---- a close

counted_same : (g : Group) → counted (closed_group g) (g.closed + 1) ≡ closed_group g
unfolding counted closed_group
counted_same g = refl

module _ (g : Group) (ws : List ℕ) (o : Ordered g ws) (left : g.closed < ticks) where
  -- every word is of a tick up to the one closed
  pub all_closed : up_to (g.closed + 1) ws ≡ ws
  all_closed = keep_all (λ v. leb (tick_of v) (g.closed + 1)) ws (λ i h. le-leb _ _ (good (g.closed + 1) ws i (o.formed i h)).inside.upto)

  close_last : (s : Side) (n : ℕ) → n < range s → Known (closed_group g) s n (last_of ws (length ws) (code_of s n))
  close_last s n l =
      subst (λ (h : Group). Known h s n (last_of ws (length ws) (code_of s n))) (counted_same g)
      (close_known g o.fits s n (last_of ws (length ws) (code_of s n)) (g.closed + 1) l (o.last_known s n l) (omega arith))

  pub close_ordered : Ordered (closed_group g) ws
  unfolding closed_group
  close_ordered = record {
    fits = closed_fits g o.fits left;
    formed = formed_later (g.closed + 1) (g.closed + 1 + 1) ws (omega arith) o.formed;
    last_known = close_last;
    front = rw all_closed (take-length ws);
  }
