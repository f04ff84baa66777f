-- A delivery's reader finds the granted sheets, each with the store's bytes. Assumes nothing.
use mathlib.Core.Path.{◌≡◌, refl, sym, ap, ap₂, ◌∙◌, subst}
use mathlib.Core.Bool.{Bool, true, false, not, cond, true≢false}
use mathlib.Core.List.{List, [], ◌∷◌, ◌++◌, append_assoc, map}
use mathlib.Core.Logic.{◌↔◌}
use Prim.Native.Nat.{ℕ, suc, ◌+◌, ◌≤◌, ◌<◌}
use native.Mathlib.Omega.{arith}
use lib.Dec.{leb, ltb}
use lib.ListN.{length, get_or, take, drop, length-append, length-drop}
use lib.Seq.{take_at, drop_at}
use borrow.Author.Tests.{leb-false, ltb-false, not-false}
use Rattle.base.proofs.First.{first_le}
use Rattle.rules.specs.Ranges.{models, sheets}
use Rattle.rules.specs.Refusals.{bad_number, bad_store, delivery_too_long}
use Rattle.wire.specs.Word.{bytes32}
use Rattle.wire.proofs.Word.{length_bytes32}
use Rattle.bits.specs.Granted.{granted}
use Rattle.store.specs.Entry.{offset, sheet_length}
use Rattle.store.specs.Store.{good_store}
use Rattle.parts.specs.Delivery.{sheet_bytes, part, parts, delivery_length, delivery_of, granted_sheets}
use Rattle.parts.specs.Fault.{faulty, first_faulty}
use Rattle.parts.specs.Listed.{listed, Exactly}
use Rattle.parts.specs.Ready.{Ready}
use Rattle.parts.proofs.Listed.{behind, inside, delivery_count, delivery_total, delivery_lists, delivered_exactly}
use Rattle.parts.proofs.Parts.{length_sheet, part_number, part_bytes, part_next}
use Rattle.delivery.specs.Answer.{answer, written, buffer_after}
use Rattle.delivery.specs.Delivery.{Delivery, Delivered, Refused}
use Rattle.demands.specs.Delivered.{parts_of, parts_in, flat_parts, stored, Holds}

-- ---- what `Delivered` tells

-- the answer, over any tests: it is `Delivered` where none of the lines is met
record Passed (a b c d : Bool) (n k : ℕ) : Type 0 where
  number : a ≡ false
  store : b ≡ false
  sheet : c ≡ false
  room : d ≡ false
  total : n ≡ k

passed : (a b c d : Bool) (x y n k : ℕ)
    → cond a (Refused bad_number 0) (cond b (Refused bad_store 0) (cond c (Refused x y) (cond d (Refused delivery_too_long 0) (Delivered n)))) ≡ Delivered k → Passed a b c d n k
passed true b c d x y n k e = absurd (true≢false (cc e))
passed false true c d x y n k e = absurd (true≢false (cc e))
passed false false true d x y n k e = absurd (true≢false (cc e))
passed false false false true x y n k e = absurd (true≢false (cc e))
passed false false false false x y n k e = record { number = refl; store = refl; sheet = refl; room = refl; total = cc e }

module _ (grants : List ℕ) (m : ℕ) (store : List ℕ) where
  abbrev ss : List ℕ
  ss = granted_sheets grants m

  delivered_passed : (room k : ℕ) → answer grants m store room ≡ Delivered k
      → Passed (leb models m) (not (good_store store)) (ltb (first_faulty grants m store) sheets) (ltb room (delivery_length store ss)) (delivery_length store ss) k
  unfolding answer
  delivered_passed room k e = passed _ _ _ _ _ _ _ k e

  delivered_ready : (room k : ℕ) → answer grants m store room ≡ Delivered k → Ready grants m store
  delivered_ready room k e =
      let p = delivered_passed room k e in
      let past = ltb-false (first_faulty grants m store) sheets p.sheet in
      record {
        known = leb-false models m p.number;
        taken = not-false (good_store store) p.store;
        sound = omega (arith, first_le (faulty grants m store) sheets);
      }

-- ---- the parts, as the reader finds them

parts_found : (b ss rest : List ℕ) → ((i : ℕ) → i < length ss → offset b (get_or ss i 0) + sheet_length b (get_or ss i 0) ≤ length b)
    → parts_of (parts b ss ++ rest) (length ss) ≡ map (stored b) ss
unfolding parts_of parts
parts_found b [] rest h = refl
parts_found b (s ∷ ss) rest h =
    let after : List ℕ = parts b ss ++ rest in
    let number = part_number b s (h 0 (omega arith)) after in
    let held = part_bytes b s (h 0 (omega arith)) after in
    ap (λ (l : List ℕ). parts_of l (suc (length ss))) (append_assoc (part b s) (parts b ss) rest)
    ∙ ap₂ ◌∷◌
    (λ i. record { number = number i; bytes = held i })
    (ap (λ (l : List ℕ). parts_of l (length ss)) (part_next b s (h 0 (omega arith)) after) ∙ parts_found b ss rest (λ i l. h (suc i) (omega arith)))

-- the parts one behind the other are the bytes that were written
parts_flat : (b ss : List ℕ) → ((i : ℕ) → i < length ss → offset b (get_or ss i 0) + sheet_length b (get_or ss i 0) ≤ length b)
    → flat_parts (map (stored b) ss) ≡ parts b ss
unfolding flat_parts parts part
parts_flat b [] h = refl
parts_flat b (s ∷ ss) h =
    ap₂ (λ (n : ℕ) (rest : List ℕ). (bytes32 s ++ (bytes32 n ++ sheet_bytes b s)) ++ rest) (length_sheet b s (h 0 (omega arith)))
    (parts_flat b ss (λ i l. h (suc i) (omega arith)))

-- ---- a delivery

module _ (grants : List ℕ) (m : ℕ) (store rest : List ℕ) (ready : Ready grants m store) where
  abbrev mine : List ℕ
  mine = granted_sheets grants m

  delivery_found : parts_in (delivery_of store mine ++ rest) ≡ map (stored store) mine
  delivery_found =
      ap₂ parts_of (behind store mine rest) (delivery_count store mine rest) ∙ parts_found store mine rest (inside grants m store rest ready)

  delivery_parts : parts_in (delivery_of store mine ++ rest) ≡ map (stored store) (listed (delivery_of store mine ++ rest))
  delivery_parts = delivery_found ∙ ap (map (stored store)) (sym (delivery_lists grants m store rest ready))

  delivery_flat : flat_parts (parts_in (delivery_of store mine ++ rest)) ≡ parts store mine
  delivery_flat = ap flat_parts delivery_found ∙ parts_flat store mine (inside grants m store rest ready)

-- Where the grants say P, a delivery that is answered `Delivered` holds what one may have by P.
module _ (grants : List ℕ) (m : ℕ) (P : ℕ → Type 0) (says : (s : ℕ) → s < sheets → (granted grants m s ≡ true) ↔ P s) (store out : List ℕ) (n : ℕ) where
  abbrev given : List ℕ
  given = delivery_of store (granted_sheets grants m)

  length_given : length given ≡ delivery_length store (granted_sheets grants m)
  length_given = simp (length-append, length_bytes32) (omega arith)

  -- the whole of it, as its reader finds it
  given_whole : Ready grants m store → delivery_length store (granted_sheets grants m) ≡ n → let d = given ++ drop n out in
      take n d ≡ bytes32 (length (listed d)) ++ (bytes32 n ++ flat_parts (parts_in d))
  given_whole ready e =
      let d : List ℕ = given ++ drop n out in
      let count : length (granted_sheets grants m) ≡ length (listed d) = ap length (sym (delivery_lists grants m store (drop n out) ready)) in
      let flat : parts store (granted_sheets grants m) ≡ flat_parts (parts_in d) = sym (delivery_flat grants m store (drop n out) ready) in
      take_at given (drop n out) n (length_given ∙ e)
      ∙ ap₂ (λ (k : ℕ) (x : List ℕ). bytes32 k ++ (bytes32 (delivery_length store (granted_sheets grants m)) ++ x)) count flat
      ∙ ap (λ (k : ℕ). bytes32 (length (listed d)) ++ (bytes32 k ++ flat_parts (parts_in d))) e

  given_holds : Ready grants m store → delivery_length store (granted_sheets grants m) ≡ n → n ≤ length out → Holds P store out n (given ++ drop n out)
  given_holds ready e room =
      let d : List ℕ = given ++ drop n out in
      let exactly : Exactly grants m (listed d) = delivered_exactly grants m store (drop n out) ready in
      record {
        only = λ i l. let so = exactly.only i l in (so.0, (says (get_or (listed d) i 0) so.0).0 so.1);
        every = λ s l p. exactly.every s l ((says s l).1 p);
        rising = exactly.rising;
        unaltered = delivery_parts grants m store (drop n out) ready;
        count = delivery_count store (granted_sheets grants m) (drop n out) ∙ ap length (sym (delivery_lists grants m store (drop n out) ready));
        total = delivery_total store (granted_sheets grants m) (drop n out) ∙ e;
        whole = given_whole ready e;
        exact = sym e ∙ ap (λ (l : List ℕ). 8 + length l) (sym (delivery_flat grants m store (drop n out) ready));
        beyond = drop_at given (drop n out) n (length_given ∙ e);
        long = length-append given (drop n out) ∙ rw (length_given, e, length-drop n out) (omega arith);
      }

  pub delivered_holds : answer grants m store (length out) ≡ Delivered n → Holds P store out n (buffer_after grants m store out)
  delivered_holds e =
      let left : buffer_after grants m store out ≡ given ++ drop n out = ap (λ (x : Delivery). written x given out) e in
      subst (Holds P store out n) (sym left)
      (let p = delivered_passed grants m store (length out) n e in
      let fits : delivery_length store (granted_sheets grants m) ≤ length out = ltb-false (length out) (delivery_length store (granted_sheets grants m)) p.room in
      given_holds (delivered_ready grants m store (length out) n e) p.total (omega (arith, p.total)))
