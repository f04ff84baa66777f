-- A delivery's refusals, line by line. Assumes nothing.
use mathlib.Core.Path.{◌≡◌, refl, ap, ◌∙◌, sym}
use mathlib.Core.Bool.{Bool, true, false, not, cond, ◌&&◌, false≢true, true≢false}
use mathlib.Core.List.{List, [], ◌∷◌}
use Prim.Native.Nat.{ℕ}
use native.Mathlib.Omega.{arith}
use lib.Dec.{eqb, ltb, leb}
use lib.ListN.{length}
use borrow.Author.Tests.{ltb-true, eqb-false, not-true}
use Rattle.base.proofs.First.{first_there}
use Rattle.base.proofs.Truth.{both}
use Rattle.rules.specs.Ranges.{models, sheets}
use Rattle.rules.specs.Refusals.{bad_number, bad_store, not_in_store, bad_entry, delivery_too_long}
use Rattle.bits.specs.Granted.{granted}
use Rattle.store.specs.Entry.{good_entry, entry_fault}
use Rattle.store.specs.Store.{sheet_count, good_store}
use Rattle.parts.specs.Delivery.{granted_sheets, delivery_length, delivery_of}
use Rattle.parts.specs.Fault.{faulty, first_faulty}
use Rattle.delivery.specs.Answer.{answer, written, buffer_after}
use Rattle.delivery.specs.Delivery.{Delivery, Delivered, Refused}
use Rattle.demands.specs.Lines.{Refusal, at, plain, none, Line, line, first_met, Refuses}
use Rattle.demands.specs.Refusals.{sheet_lines, delivery_lines, refused_delivery}
use Rattle.demands.proofs.Lines.{any, first_each}

-- ---- one sheet: granted, below n, with a good entry

fault : Bool → Bool → ℕ
fault low good = cond low (cond good 0 bad_entry) not_in_store

abbrev lines : Bool → Bool → Bool → ℕ → List Line
lines g low good s = line (g && not low) (at not_in_store s) ∷ line (g && not good) (at bad_entry s) ∷ []

lines_met : (g low good : Bool) (s : ℕ) → any (lines g low good s) ≡ g && not (eqb (fault low good) 0)
unfolding any fault
lines_met true true true s = refl
lines_met true true false s = refl
lines_met true false true s = refl
lines_met true false false s = refl
lines_met false low good s = refl

lines_told : (g low good : Bool) (s : ℕ) → g && not (eqb (fault low good) 0) ≡ true → first_met (lines g low good s) ≡ at (fault low good) s
unfolding first_met fault
lines_told true true true s t = absurd (false≢true t)
lines_told true true false s t = refl
lines_told true false true s t = refl
lines_told true false false s t = refl
lines_told false low good s t = absurd (false≢true t)

module _ (grants : List ℕ) (m : ℕ) (store : List ℕ) where
  sheet_met : (s : ℕ) → any (sheet_lines grants m store s) ≡ faulty grants m store s
  unfolding faulty entry_fault fault
  sheet_met s = lines_met (granted grants m s) (ltb s (sheet_count store)) (good_entry store s) s

  sheet_told : (s : ℕ) → faulty grants m store s ≡ true → first_met (sheet_lines grants m store s) ≡ at (entry_fault store s) s
  unfolding faulty entry_fault fault
  sheet_told s t = lines_told (granted grants m s) (ltb s (sheet_count store)) (good_entry store s) s t

  -- ---- the delivery

  order : (a b c d : Bool) (x y n : ℕ)
      → refused_delivery (cond a (Refused bad_number 0) (cond b (Refused bad_store 0) (cond c (Refused x y) (cond d (Refused delivery_too_long 0) (Delivered n)))))
      ≡ cond a (plain bad_number) (cond b (plain bad_store) (cond c (at x y) (cond d (plain delivery_too_long) none)))
  order true b c d x y n = refl
  order false true c d x y n = refl
  order false false true d x y n = refl
  order false false false true x y n = refl
  order false false false false x y n = refl

  first_told : (room : ℕ) → refused_delivery (answer grants m store room) ≡ first_met (delivery_lines grants m store room)
  unfolding answer first_met
  first_told room =
      let last : List Line = line (ltb room (delivery_length store (granted_sheets grants m))) (plain delivery_too_long) ∷ [] in
      let each = first_each (sheet_lines grants m store) (faulty grants m store) (λ s. at (entry_fault store s) s) sheet_met sheet_told sheets last in
      order (leb models m) (not (good_store store)) (ltb (first_faulty grants m store) sheets) (ltb room (delivery_length store (granted_sheets grants m)))
      (entry_fault store (first_faulty grants m store)) (first_faulty grants m store) (delivery_length store (granted_sheets grants m))
      ∙ ap (λ (r : Refusal). cond (leb models m) (plain bad_number) (cond (not (good_store store)) (plain bad_store) r)) (sym each)

-- "A refused call leaves .. all buffers unchanged."
kept : (d : Delivery) (delivery out : List ℕ) → ((refused_delivery d).number ≡ 0 → ⊥) → written d delivery out ≡ out
kept (Delivered n) delivery out r = absurd (r refl)
kept (Refused number place) delivery out r = refl

pub delivery_refuses : (grants : List ℕ) (m : ℕ) (store out : List ℕ)
    → Refuses (delivery_lines grants m store (length out)) (refused_delivery (answer grants m store (length out))) (buffer_after grants m store out ≡ out)
delivery_refuses grants m store out = record {
  first = first_told grants m store (length out);
  unchanged = kept (answer grants m store (length out)) (delivery_of store (granted_sheets grants m)) out;
}

-- ---- a delivery that no line refuses

not_refused : (d : Delivery) → ((number place : ℕ) → d ≡ Refused number place → number ≡ 0 → ⊥) → refused_delivery d ≡ none → (n : ℕ) × (d ≡ Delivered n)
not_refused (Delivered n) h e = (n, refl)
not_refused (Refused number place) h e = absurd (h number place refl (ap (λ (r : Refusal). r.number) e))

module _ (grants : List ℕ) (m : ℕ) (store : List ℕ) where
  -- a refusal has no number 0
  numbered : (a b c d : Bool) (x y n number place : ℕ) → (c ≡ true → x ≡ 0 → ⊥)
      → cond a (Refused bad_number 0) (cond b (Refused bad_store 0) (cond c (Refused x y) (cond d (Refused delivery_too_long 0) (Delivered n)))) ≡ Refused number place
      → number ≡ 0 → ⊥
  numbered true b c d x y n number place h e z = let i : bad_number ≡ number = cc e in omega arith
  numbered false true c d x y n number place h e z = let i : bad_store ≡ number = cc e in omega arith
  numbered false false true d x y n number place h e z = let i : x ≡ number = cc e in h refl (i ∙ z)
  numbered false false false true x y n number place h e z = let i : delivery_too_long ≡ number = cc e in omega arith
  numbered false false false false x y n number place h e z = true≢false (cc e)

  pub unrefused_delivered : (out : List ℕ) → first_met (delivery_lines grants m store (length out)) ≡ none → (n : ℕ) × (answer grants m store (length out) ≡ Delivered n)
  unfolding answer faulty
  unrefused_delivered out e =
      let found = first_faulty grants m store in
      let fault-there = entry_fault store found in
      not_refused (answer grants m store (length out))
      (λ number place r. numbered (leb models m) (not (good_store store)) (ltb (first_faulty grants m store) sheets) (ltb (length out) (delivery_length store (granted_sheets grants m)))
      (entry_fault store (first_faulty grants m store)) (first_faulty grants m store) (delivery_length store (granted_sheets grants m)) number place
      (λ t z. eqb-false fault-there 0 (not-true (eqb fault-there 0) (both (granted grants m found) (not (eqb fault-there 0)) (first_there (faulty grants m store) sheets (ltb-true found sheets t))).1) z) r)
      (first_told grants m store (length out) ∙ e)
