-- What a delivery answers, and what it leaves in the buffer.
use Rattle.std.specs.Prelude.{◌≡◌, ℕ, not, cond, List, ◌++◌, leb, ltb, length, drop}
use Rattle.rules.specs.Ranges.{models, sheets}
use Rattle.rules.specs.Refusals.{bad_number, bad_store, delivery_too_long}
use Rattle.store.specs.Store.{good_store}
use Rattle.store.specs.Entry.{entry_fault}
use Rattle.parts.specs.Fault.{first_faulty}
use Rattle.parts.specs.Delivery.{granted_sheets, delivery_length, delivery_of}
use Rattle.delivery.specs.Delivery.{Delivery, Delivered, Refused}

-- "delivery 2, 31, then granted sheets by rising number 32, 33, then 34. 32 and 33 name the sheet"; the others have no place, which is 0. By what is
-- made of a refusal and its place, and else of the total length
abbrev pub decided : {A : Type 0} → List ℕ → ℕ → List ℕ → ℕ → (ℕ → ℕ → A) → (ℕ → A) → A
decided grants m b room refuse deliver =
    cond (leb models m) (refuse bad_number 0)
    (cond (not (good_store b)) (refuse bad_store 0)
    (cond (ltb (first_faulty grants m b) sheets) (refuse (entry_fault b (first_faulty grants m b)) (first_faulty grants m b))
    (cond (ltb room (delivery_length b (granted_sheets grants m))) (refuse delivery_too_long 0)
    (deliver (delivery_length b (granted_sheets grants m))))))

-- "Its answer is that total length."
unfoldable pub answer : List ℕ → ℕ → List ℕ → ℕ → Delivery
answer grants m b room = decided grants m b room Refused Delivered

-- the numbers of each case: the refusal's, 0 where there is none; its place, 0 where it has none; the total length, 0 where nothing is delivered
abbrev pub delivery_number : Delivery → ℕ
delivery_number (Delivered n) = 0
delivery_number (Refused number place) = number

abbrev pub delivery_place : Delivery → ℕ
delivery_place (Delivered n) = 0
delivery_place (Refused number place) = place

abbrev pub delivered_length : Delivery → ℕ
delivered_length (Delivered n) = n
delivered_length (Refused number place) = 0

-- a delivery's promise of its answer: the case, and with it its numbers
pub record Delivers (grants : List ℕ) (m : ℕ) (b : List ℕ) (room : ℕ) (r : Delivery) : Type 0 where
  pub answer : r ≡ answer grants m b room
  pub number : delivery_number r ≡ decided grants m b room (λ number place. number) (λ n. 0)
  pub place : delivery_place r ≡ decided grants m b room (λ number place. place) (λ n. 0)
  pub length : delivered_length r ≡ decided grants m b room (λ number place. 0) (λ n. n)

-- "Bytes beyond it stay." "A refused call leaves the group and all buffers unchanged"
abbrev pub written : Delivery → List ℕ → List ℕ → List ℕ
written (Delivered n) delivery out = delivery ++ drop n out
written (Refused number place) delivery out = out

abbrev pub buffer_after : List ℕ → ℕ → List ℕ → List ℕ → List ℕ
buffer_after grants m b out = written (answer grants m b (length out)) (delivery_of b (granted_sheets grants m)) out
