-- Well-formed records stay so with a later last tick, cut short behind a place, and with one more word in its place that no word of its carrier
-- follows. Assumes nothing.
use mathlib.Core.Path.{◌≡◌, refl, sym, ap, ap₂, ◌∙◌}
use mathlib.Core.Bool.{true, false}
use mathlib.Core.List.{List}
use mathlib.Core.Logic.{⊎_elim}
use Prim.Native.Nat.{ℕ, zero, suc, ◌-◌, ◌≤◌, ◌<◌}
use native.Mathlib.Nat.{eq-or-lt_of_le}
use native.Mathlib.Omega.{arith}
use lib.Dec.{leb}
use lib.ListN.{length, get_or, take}
use lib.Seq.{length-take-le, get_or-take}
use borrow.Author.Tests.{leb-true, leb-false, ne_eqb, le-ltb, lt-leb}
use Rattle.base.proofs.Truth.{either}
use Rattle.event.specs.Word.{tick_of}
use Rattle.records.specs.Records.{outside, carrier_of, last_of, breaks, record_refusal, WellFormedRecords}
use Rattle.tick.specs.Tick.{not_greater}
use Rattle.records.proofs.Pass.{Inside, Good, good, formed_rises}
use Rattle.tick.proofs.Part.{climb}
use Rattle.insert.specs.Inserted.{inserted}
use Rattle.insert.proofs.Among.{place, place_inside, place_from_lem, place_last, at_before, at_place, at_behind, length_inserted}
use Rattle.saved.proofs.Lasts.{last_same, last_before, last_other, last_stays}

-- a good record is not refused
good_record : (T : ℕ) (ws : List ℕ) (i : ℕ) → Good T ws i → record_refusal T ws i ≡ 0
unfolding record_refusal
good_record T ws i g =
    let w = get_or ws i 0 in
    let h = g.inside in
    let in-time : outside T w ≡ false = simp (ne_eqb (tick_of w) 0 (λ e. omega (arith, h.from)), le-ltb T (tick_of w) h.upto, lt-leb _ _ h.ranged) in
    simp (in-time, g.greater, g.keeps)

-- ---- a later last tick

pub formed_later : (T U : ℕ) (ws : List ℕ) → T ≤ U → WellFormedRecords T ws → WellFormedRecords U ws
formed_later T U ws l f i h =
    let g = good T ws i (f i h) in
    let n = g.inside in
    good_record U ws i (record { inside = record { from = n.from; upto = omega (arith, n.upto); ranged = n.ranged }; greater = g.greater; keeps = g.keeps })

-- ---- the first n

-- a record is judged by the words up to it
greater_same : (xs ys : List ℕ) (i : ℕ) → ((k : ℕ) → k ≤ i → get_or xs k 0 ≡ get_or ys k 0) → not_greater xs i ≡ not_greater ys i
unfolding not_greater
greater_same xs ys zero e = refl
greater_same xs ys (suc i) e = ap₂ leb (e (suc i) (omega arith)) (e i (omega arith))

good_same : (T : ℕ) (xs ys : List ℕ) (i : ℕ) → ((k : ℕ) → k ≤ i → get_or xs k 0 ≡ get_or ys k 0) → Good T ys i → Good T xs i
good_same T xs ys i e g =
    let here : get_or xs i 0 ≡ get_or ys i 0 = e i (omega arith) in
    record {
      inside = rw here g.inside;
      greater = greater_same xs ys i e ∙ g.greater;
      keeps = rw (here, last_same xs ys i (carrier_of (get_or ys i 0)) (λ k l. e k (omega arith))) g.keeps;
    }

pub formed_front : (T U : ℕ) (ws : List ℕ) (n : ℕ) → n ≤ length ws → ((k : ℕ) → k < n → tick_of (get_or ws k 0) ≤ T) → WellFormedRecords U ws → WellFormedRecords T (take n ws)
formed_front T U ws n l past f i h =
    let long = length-take-le n ws l in
    let g = good U ws i (f i (omega arith)) in
    let m = g.inside in
    let p = past i (omega arith) in
    good_record T (take n ws) i (good_same T (take n ws) ws i (λ k b. get_or-take n ws k 0 (omega arith))
    (record { inside = record { from = m.from; upto = p; ranged = m.ranged }; greater = g.greater; keeps = g.keeps }))

-- ---- one more

module _ (T : ℕ) (ws : List ℕ) (w : ℕ) (formed : WellFormedRecords T ws) (inside : Inside T w)
    (alone : (k : ℕ) → place ws w ≤ k → k < length ws → carrier_of (get_or ws k 0) ≡ carrier_of w → ⊥)
    (apart : (k : ℕ) → k < length ws → get_or ws k 0 ≡ w → ⊥)
    (keeps : breaks (last_of ws (length ws) (carrier_of w)) w ≡ false) where
  abbrev new : List ℕ
  new = inserted ws w

  -- every word before it is smaller
  smaller : (k : ℕ) → k < place ws w → get_or ws k 0 < w
  smaller k h =
      let inner = place_inside ws w in
      let last : get_or ws (place ws w - 1) 0 ≤ w = place_last ws w (length ws) (place ws w - 1) (omega arith) in
      let up = climb ws (formed_rises T ws formed) k (place ws w - 1) (omega arith) (omega arith) in
      omega (arith, apart k (omega arith))

  good_before : (i : ℕ) → i < place ws w → Good T new i
  good_before i h =
      let inner = place_inside ws w in
      good_same T new ws i (λ k l. at_before ws w k (omega arith)) (good T ws i (formed i (omega arith)))

  greater_at : (i : ℕ) → place ws w ≡ i → not_greater new i ≡ false
  unfolding not_greater
  greater_at zero e = refl
  greater_at (suc q) e =
      let s = smaller q (omega arith) in
      let here : get_or new (suc q) 0 ≡ w = ap (λ (n : ℕ). get_or new n 0) (sym e) ∙ at_place ws w in
      let before : get_or new q 0 ≡ get_or ws q 0 = at_before ws w q (omega arith) in
      lt-leb (get_or new (suc q) 0) (get_or new q 0) (omega arith)

  good_at : Good T new (place ws w)
  good_at =
      let last : last_of new (place ws w) (carrier_of w) ≡ last_of ws (length ws) (carrier_of w) =
      last_before ws w (place ws w) (carrier_of w) (omega arith) ∙ sym (last_stays ws w alone (length ws) (place_inside ws w) (omega arith)) in
      record {
        inside = rw (at_place ws w) inside;
        greater = greater_at (place ws w) refl;
        keeps = rw (at_place ws w, last) keeps;
      }

  greater_behind : (j : ℕ) → place ws w ≤ j → j < length ws → not_greater new (suc j) ≡ false
  unfolding not_greater
  greater_behind zero h l =
      let e : place ws w ≡ zero = omega arith in
      let f = place_from_lem ws w (length ws) zero l h in
      let here : get_or new 1 0 ≡ get_or ws 0 0 = at_behind ws w zero h in
      let before : get_or new 0 0 ≡ w = ap (λ (n : ℕ). get_or new n 0) (sym e) ∙ at_place ws w in
      lt-leb (get_or new 1 0) (get_or new 0 0) (omega arith)
  greater_behind (suc j) h l =
      let here : get_or new (suc (suc j)) 0 ≡ get_or ws (suc j) 0 = at_behind ws w (suc j) h in
      ⊎_elim
      (λ (e : place ws w ≡ suc j).
      let f = place_from_lem ws w (length ws) (suc j) l h in
      let before : get_or new (suc j) 0 ≡ w = ap (λ (n : ℕ). get_or new n 0) (sym e) ∙ at_place ws w in
      lt-leb (get_or new (suc (suc j)) 0) (get_or new (suc j) 0) (omega arith))
      (λ (m : place ws w < suc j).
      let before : get_or new (suc j) 0 ≡ get_or ws j 0 = at_behind ws w j (omega arith) in
      let up : get_or ws j 0 < get_or ws (suc j) 0 = leb-false _ _ (good T ws (suc j) (formed (suc j) l)).greater in
      lt-leb (get_or new (suc (suc j)) 0) (get_or new (suc j) 0) (omega arith))
      (eq-or-lt_of_le h)

  good_behind : (j : ℕ) → place ws w ≤ j → j < length ws → Good T new (suc j)
  good_behind j h l =
      let g = good T ws j (formed j l) in
      record {
        inside = rw (at_behind ws w j h) g.inside;
        greater = greater_behind j h l;
        keeps = rw (at_behind ws w j h, last_other ws w (carrier_of (get_or ws j 0)) (λ e. alone j h l (sym e)) j h) g.keeps;
      }

  good_from : (i : ℕ) → place ws w < i → i < length new → Good T new i
  good_from zero h l = absurd (omega arith)
  good_from (suc j) h l = good_behind j (omega arith) (omega (arith, length_inserted ws w))

  pub formed_inserted : WellFormedRecords T new
  formed_inserted i h = good_record T new i (⊎_elim
      (λ (t : leb i (place ws w) ≡ true). ⊎_elim
      (λ (e : i ≡ place ws w). rw e good_at)
      (λ (m : i < place ws w). good_before i m)
      (eq-or-lt_of_le (leb-true _ _ t)))
      (λ (f : leb i (place ws w) ≡ false). good_from i (leb-false _ _ f) h)
      (either (leb i (place ws w))))
