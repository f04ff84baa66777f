-- A delivery depends on nothing but what `Agree` names: where two stores and two groups agree there, the answers are equal and so are the buffers. Assumes nothing.
use mathlib.Core.Path.{◌≡◌, sym, ap, ap₂, ◌∙◌}
use mathlib.Core.Bool.{Bool, true, false, not, ◌&&◌}
use mathlib.Core.List.{List, ◌++◌}
use mathlib.Core.Logic.{⊎_elim}
use Prim.Native.Nat.{ℕ, ◌+◌, ◌<◌}
use native.Mathlib.Omega.{arith}
use borrow.Author.Tests.{ltb-true, ltb-false}
use lib.Dec.{leb, ltb, eqb}
use lib.ListN.{length, get_or}
use Rattle.base.proofs.First.{first_ext, first_le}
use Rattle.base.proofs.Truth.{either}
use Rattle.rules.specs.Ranges.{models, sheets}
use Rattle.wire.specs.Word.{bytes32}
use Rattle.bits.specs.Granted.{granted}
use Rattle.store.specs.Store.{good_store}
use Rattle.store.specs.Entry.{entry_fault}
use Rattle.store.proofs.Entry.{sound}
use Rattle.store.proofs.Same.{same_store, same_fault}
use Rattle.parts.specs.Fault.{faulty, first_faulty}
use Rattle.parts.specs.Delivery.{part, parts, delivery_of, granted_sheets}
use Rattle.parts.proofs.Fault.{fault_free, first_granted}
use Rattle.parts.proofs.Granted.{below_same}
use Rattle.parts.proofs.Listed.{granted_exactly}
use Rattle.parts.proofs.Parts.{parts_same}
use Rattle.delivery.specs.Delivery.{Delivery}
use Rattle.delivery.specs.Answer.{answer, written, buffer_after}
use Rattle.delivery.specs.Agree.{Agree}

-- where a granted sheet is faulty, whatever the refusal is, the buffer stays
faulty_keeps : (grants : List ℕ) (m : ℕ) (b : List ℕ) (room : ℕ) → ltb (first_faulty grants m b) sheets ≡ true
    → (delivery out : List ℕ) → written (answer grants m b room) delivery out ≡ out
unfolding answer
faulty_keeps grants m b room t delivery out = ⊎_elim
    (λ (u : leb models m ≡ true). simp u)
    (λ (k : leb models m ≡ false).
    ⊎_elim
    (λ (g : good_store b ≡ true). simp (k, g, t))
    (λ (g : good_store b ≡ false). simp (k, g))
    (either (good_store b)))
    (either (leb models m))

module _ (grants grants' : List ℕ) (m : ℕ) (b b' : List ℕ) (same : Agree grants grants' m b b') where
  same_taken : good_store b ≡ good_store b'
  same_taken = same_store b b' same.header same.long

  module _ (s : ℕ) (h : s < sheets) (g : granted grants m s ≡ true) where
    same_refusal : entry_fault b s ≡ entry_fault b' s
    same_refusal = same_fault b b' same.header s (λ l. (same.offsets s h g l, same.lengths s h g l))

    same_part : entry_fault b s ≡ 0 → part b s ≡ part b' s
    unfolding part
    same_part e =
        ap₂ (λ (n : ℕ) (l : List ℕ). bytes32 s ++ (bytes32 n ++ l)) (same.lengths s h g (sound b s e).inside) (same.bytes s h g e)

  same_faulty : (s : ℕ) → s < sheets → faulty grants m b s ≡ faulty grants' m b' s
  unfolding faulty
  same_faulty s h = ⊎_elim
      (λ (t : granted grants m s ≡ true). ap₂ (λ (x : Bool) (n : ℕ). x && not (eqb n 0)) (same.bits s h) (same_refusal s h t))
      (λ (f : granted grants m s ≡ false). simp (f, sym (same.bits s h) ∙ f))
      (either (granted grants m s))

  same_first : first_faulty grants m b ≡ first_faulty grants' m b'
  same_first = first_ext (faulty grants m b) (faulty grants' m b') sheets same_faulty

  same_sheets : granted_sheets grants m ≡ granted_sheets grants' m
  same_sheets = below_same grants grants' m sheets same.bits

  same_parts : first_faulty grants m b ≡ sheets → parts b (granted_sheets grants m) ≡ parts b' (granted_sheets grants' m)
  same_parts all =
      parts_same b b' (granted_sheets grants m)
      (λ i h.
      let so = (granted_exactly grants m).only i h in
      same_part (get_or (granted_sheets grants m) i 0) so.0 so.1 (fault_free grants m b _ all so.0 so.1))
      ∙ ap (parts b') same_sheets

  through : ltb (first_faulty grants m b) sheets ≡ false → first_faulty grants m b ≡ sheets
  through f =
      let past = ltb-false (first_faulty grants m b) sheets f in
      omega (arith, first_le (faulty grants m b) sheets)

  same_delivery : first_faulty grants m b ≡ sheets → delivery_of b (granted_sheets grants m) ≡ delivery_of b' (granted_sheets grants' m)
  same_delivery all =
      ap₂ (λ (ss p : List ℕ). bytes32 (length ss) ++ (bytes32 (8 + length p) ++ p)) same_sheets (same_parts all)

  answer_faulty : (room : ℕ) → ltb (first_faulty grants m b) sheets ≡ true → answer grants m b room ≡ answer grants' m b' room
  unfolding answer
  answer_faulty room t =
      let found = ltb-true _ _ t in
      let t' : ltb (first_faulty grants' m b') sheets ≡ true = ap (λ (n : ℕ). ltb n sheets) (sym same_first) ∙ t in
      let fault : entry_fault b (first_faulty grants' m b') ≡ entry_fault b' (first_faulty grants' m b') =
      ap (entry_fault b) (sym same_first) ∙ same_refusal (first_faulty grants m b) found (first_granted grants m b found) ∙ ap (entry_fault b') same_first in
      simp (same_taken, same_first, t', fault)

  answer_sound : (room : ℕ) → ltb (first_faulty grants m b) sheets ≡ false → answer grants m b room ≡ answer grants' m b' room
  unfolding answer
  answer_sound room f =
      let long : length (parts b (granted_sheets grants m)) ≡ length (parts b' (granted_sheets grants' m)) = ap length (same_parts (through f)) in
      let fault : ltb (first_faulty grants' m b') sheets ≡ false = ap (λ (n : ℕ). ltb n sheets) (sym same_first) ∙ f in
      simp (same_taken, same_first, fault, long)

  -- The answer depends on nothing else.
  pub same_answer : (room : ℕ) → answer grants m b room ≡ answer grants' m b' room
  same_answer room = ⊎_elim (answer_faulty room) (answer_sound room) (either (ltb (first_faulty grants m b) sheets))

  -- Nor does any byte of the buffer.
  pub same_buffer : (out : List ℕ) → buffer_after grants m b out ≡ buffer_after grants' m b' out
  same_buffer out = ⊎_elim
      (λ (t : ltb (first_faulty grants m b) sheets ≡ true).
      faulty_keeps grants m b (length out) t (delivery_of b (granted_sheets grants m)) out
      ∙ sym (faulty_keeps grants' m b' (length out) (ap (λ (n : ℕ). ltb n sheets) (sym same_first) ∙ t) (delivery_of b' (granted_sheets grants' m)) out))
      (λ (f : ltb (first_faulty grants m b) sheets ≡ false).
      ap₂ (λ (a : Delivery) (d : List ℕ). written a d out) (same_answer (length out)) (same_delivery (through f)))
      (either (ltb (first_faulty grants m b) sheets))
