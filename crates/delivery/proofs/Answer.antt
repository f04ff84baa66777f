-- The answer in each case, and the buffer with it. Assumes nothing.
use mathlib.Core.Path.{◌≡◌, refl, sym, ap, ◌∙◌}
use mathlib.Core.Bool.{Bool, true, false, not, cond}
use mathlib.Core.List.{List}
use Prim.Native.Nat.{ℕ, ◌≤◌, ◌<◌}
use borrow.Author.Tests.{lt-ltb, le-ltb, le-leb, lt-leb}
use lib.Dec.{leb, ltb}
use lib.ListN.{length}
use Rattle.rules.specs.Ranges.{models, sheets}
use Rattle.rules.specs.Refusals.{bad_number, bad_store, delivery_too_long}
use Rattle.store.specs.Store.{good_store}
use Rattle.store.specs.Entry.{entry_fault}
use Rattle.parts.specs.Fault.{first_faulty}
use Rattle.parts.specs.Delivery.{granted_sheets, delivery_length, delivery_of}
use Rattle.delivery.specs.Delivery.{Delivery, Delivered, Refused}
use Rattle.delivery.specs.Answer.{decided, answer, delivery_number, delivery_place, delivered_length, Delivers, written, buffer_after}

-- what is made of an answer is made of each of its cases
module _ {A : Type 0} (f : Delivery → A) where
  each_case : (w x y z : Bool) (i j k l n p : ℕ)
      → f (cond w (Refused i 0) (cond x (Refused j 0) (cond y (Refused k p) (cond z (Refused l 0) (Delivered n)))))
      ≡ cond w (f (Refused i 0)) (cond x (f (Refused j 0)) (cond y (f (Refused k p)) (cond z (f (Refused l 0)) (f (Delivered n)))))
  each_case true x y z i j k l n p = refl
  each_case false true y z i j k l n p = refl
  each_case false false true z i j k l n p = refl
  each_case false false false true i j k l n p = refl
  each_case false false false false i j k l n p = refl

  decided_by : (grants : List ℕ) (m : ℕ) (b : List ℕ) (room : ℕ) → f (answer grants m b room) ≡ decided grants m b room (λ number place. f (Refused number place)) (λ n. f (Delivered n))
  unfolding answer
  decided_by grants m b room = each_case (leb models m) (not (good_store b)) (ltb (first_faulty grants m b) sheets) (ltb room (delivery_length b (granted_sheets grants m))) _ _ _ _ _ _

-- the answer has the numbers of its case
delivers : (grants : List ℕ) (m : ℕ) (b : List ℕ) (room : ℕ) (a : Delivery) → a ≡ answer grants m b room → Delivers grants m b room a
delivers grants m b room a e = record {
  answer = e;
  number = ap delivery_number e ∙ decided_by delivery_number grants m b room;
  place = ap delivery_place e ∙ decided_by delivery_place grants m b room;
  length = ap delivered_length e ∙ decided_by delivered_length grants m b room;
}

-- what the answer is fixes what the buffer holds
pub promised : (grants : List ℕ) (m : ℕ) (b out : List ℕ) (a : Delivery) → answer grants m b (length out) ≡ a
    → Delivers grants m b (length out) a × (written a (delivery_of b (granted_sheets grants m)) out ≡ buffer_after grants m b out)
promised grants m b out a e = (delivers grants m b (length out) a (sym e), ap (λ (x : Delivery). written x (delivery_of b (granted_sheets grants m)) out) (sym e))

module _ (grants : List ℕ) (m : ℕ) (b : List ℕ) (room : ℕ) where
  pub answer_number : models ≤ m → answer grants m b room ≡ Refused bad_number 0
  unfolding answer
  answer_number h = simp (le-leb _ _ h)

  module _ (known : m < models) where
    pub answer_store : good_store b ≡ false → answer grants m b room ≡ Refused bad_store 0
    unfolding answer
    answer_store e = simp (lt-leb _ _ known, e)

    module _ (taken : good_store b ≡ true) where
      pub answer_sheet : first_faulty grants m b < sheets → answer grants m b room ≡ Refused (entry_fault b (first_faulty grants m b)) (first_faulty grants m b)
      unfolding answer
      answer_sheet h = simp (lt-leb _ _ known, taken, lt-ltb _ _ h)

      module _ (sound : sheets ≤ first_faulty grants m b) where
        pub answer_long : room < delivery_length b (granted_sheets grants m) → answer grants m b room ≡ Refused delivery_too_long 0
        unfolding answer
        answer_long h = simp (lt-leb _ _ known, taken, le-ltb _ _ sound, lt-ltb _ _ h)

        pub answer_delivered : delivery_length b (granted_sheets grants m) ≤ room → answer grants m b room ≡ Delivered (delivery_length b (granted_sheets grants m))
        unfolding answer
        answer_delivered h = simp (lt-leb _ _ known, taken, le-ltb _ _ sound, le-ltb _ _ h)
