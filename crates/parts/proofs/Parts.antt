-- The parts of a delivery: their lengths, what their reader finds, and one part more. Assumes nothing.
use mathlib.Core.Path.{◌≡◌, refl, ap, ap₂, ◌∙◌}
use mathlib.Core.Bool.{true, false}
use mathlib.Core.List.{List, [], ◌∷◌, ◌++◌, append-nil, append_assoc}
use mathlib.Core.Logic.{⊎_elim}
use Prim.Native.Nat.{ℕ, zero, suc, ◌+◌, ◌≤◌, ◌<◌}
use native.Mathlib.Nat.{eq-or-lt_of_le}
use native.Mathlib.Numerals.{add-one}
use native.Mathlib.Omega.{arith}
use lib.ListN.{length, get_or, take, drop, length-append, length-drop}
use lib.Seq.{length-take-le, take_at, drop_at}
use Rattle.base.proofs.Truth.{either}
use Rattle.wire.specs.Word.{le32, bytes32}
use Rattle.wire.proofs.Word.{length_bytes32}
use Rattle.bits.specs.Granted.{granted}
use Rattle.store.specs.Entry.{offset, sheet_length}
use Rattle.parts.specs.Granted.{granted_below}
use Rattle.parts.specs.Delivery.{sheet_bytes, part, parts}
use Rattle.parts.proofs.Granted.{below_in, below_out}
use Rattle.parts.proofs.Head.{read_first, read_second, drop_head}

-- a part is two words and the sheet's bytes
module _ (b : List ℕ) (s : ℕ) (within : offset b s + sheet_length b s ≤ length b) where
  pub length_sheet : length (sheet_bytes b s) ≡ sheet_length b s
  unfolding sheet_bytes
  length_sheet = length-take-le (sheet_length b s) (drop (offset b s) b) (simp length-drop (omega arith))

  pub length_part : length (part b s) ≡ 8 + sheet_length b s
  unfolding part
  length_part = simp (length-append, length_bytes32, length_sheet) (omega arith)

  -- the reader finds its number, its length, its bytes and what follows it
  module _ (rest : List ℕ) where
    abbrev d : List ℕ
    d = part b s ++ rest

    headed : d ≡ bytes32 s ++ (bytes32 (sheet_length b s) ++ (sheet_bytes b s ++ rest))
    unfolding part
    headed = simp append_assoc

    pub part_number : le32 d 0 ≡ s
    part_number = ap (λ (l : List ℕ). le32 l 0) headed ∙ read_first s (sheet_length b s) _

    part_length : le32 d 4 ≡ sheet_length b s
    part_length = ap (λ (l : List ℕ). le32 l 4) headed ∙ read_second s (sheet_length b s) _

    pub part_bytes : take (le32 d 4) (drop 8 d) ≡ sheet_bytes b s
    part_bytes =
        ap₂ take part_length (ap (drop 8) headed ∙ drop_head s (sheet_length b s) (sheet_bytes b s ++ rest))
        ∙ take_at (sheet_bytes b s) rest (sheet_length b s) length_sheet

    pub part_next : drop (8 + le32 d 4) d ≡ rest
    part_next = ap (λ (k : ℕ). drop (8 + k) d) part_length ∙ drop_at (part b s) rest (8 + sheet_length b s) length_part

pub parts_append : (b ss ts : List ℕ) → parts b (ss ++ ts) ≡ parts b ss ++ parts b ts
unfolding parts
parts_append b [] ts = refl
parts_append b (s ∷ ss) ts = simp (parts_append b ss ts, append_assoc)

pub parts_one : (b : List ℕ) (s : ℕ) → parts b (s ∷ []) ≡ part b s
unfolding parts
parts_one b s = append-nil (part b s)

-- of two stores with the same part for each sheet the parts are the same
pub parts_same : (b b' ss : List ℕ) → ((i : ℕ) → i < length ss → part b (get_or ss i 0) ≡ part b' (get_or ss i 0)) → parts b ss ≡ parts b' ss
unfolding parts
parts_same b b' [] h = refl
parts_same b b' (s ∷ ss) h =
    ap₂ (λ (x y : List ℕ). x ++ y) (h 0 (omega arith)) (parts_same b b' ss (λ i l. h (suc i) (omega arith)))

module _ (grants : List ℕ) (m : ℕ) (b : List ℕ) where
  -- a granted sheet adds its part, another adds nothing
  pub parts_in : (s : ℕ) → granted grants m s ≡ true → parts b (granted_below grants m (s + 1)) ≡ parts b (granted_below grants m s) ++ part b s
  parts_in s e = simp (below_in grants m s e, parts_append, parts_one)

  pub parts_out : (s : ℕ) → granted grants m s ≡ false → parts b (granted_below grants m (s + 1)) ≡ parts b (granted_below grants m s)
  parts_out s e = ap (parts b) (below_out grants m s e)

  -- the parts so far are no longer than the parts in all
  one_longer : (s : ℕ) → length (parts b (granted_below grants m s)) ≤ length (parts b (granted_below grants m (s + 1)))
  one_longer s = ⊎_elim
      (λ (t : granted grants m s ≡ true). rw (parts_in s t, length-append) (omega arith))
      (λ (f : granted grants m s ≡ false). rw (parts_out s f) (omega arith))
      (either (granted grants m s))

  pub parts_longer : (s n : ℕ) → s ≤ n → length (parts b (granted_below grants m s)) ≤ length (parts b (granted_below grants m n))
  parts_longer s zero h = let e : s ≡ 0 = omega arith in rw e (omega arith)
  parts_longer s (suc n) h = ⊎_elim
      (λ (e : s ≡ suc n). rw e (omega arith))
      (λ (l : s < suc n).
      let more = rw (add-one n) at (one_longer n) in
      let ih = parts_longer s n (omega arith) in
      omega arith)
      (eq-or-lt_of_le h)
