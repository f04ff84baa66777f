-- A delivery lists the granted sheets, by rising number, and no others. Assumes nothing.
use mathlib.Core.Path.{◌≡◌, refl, sym, ap, ap₂, ◌∙◌}
use mathlib.Core.Bool.{true, false}
use mathlib.Core.List.{List, [], ◌∷◌, ◌++◌, append_assoc}
use mathlib.Core.Logic.{⊎_elim}
use Prim.Native.Nat.{ℕ, zero, suc, ◌+◌, ◌≤◌, ◌<◌}
use native.Mathlib.Nat.{eq-or-lt_of_le}
use native.Mathlib.Numerals.{add-one}
use native.Mathlib.Omega.{arith}
use lib.ListN.{length, get_or, drop, length-append, get_or-append}
use lib.Seq.{get_or-append_seam}
use Rattle.base.proofs.Truth.{either}
use Rattle.rules.specs.Ranges.{sheets}
use Rattle.wire.specs.Word.{le32, bytes32}
use Rattle.bits.specs.Granted.{granted}
use Rattle.store.specs.Entry.{offset, sheet_length}
use Rattle.store.proofs.Store.{good}
use Rattle.store.proofs.Entry.{sound}
use Rattle.parts.specs.Granted.{granted_below}
use Rattle.parts.specs.Delivery.{part, parts, delivery_length, delivery_of, granted_sheets}
use Rattle.parts.specs.Ready.{Ready}
use Rattle.parts.specs.Listed.{numbers, listed, Exactly}
use Rattle.parts.proofs.Fault.{fault_free}
use Rattle.parts.proofs.Head.{read_first, read_second, drop_head}
use Rattle.parts.proofs.Granted.{below_in, below_out}
use Rattle.parts.proofs.Parts.{part_number, part_next}

-- a list with one more at its end
module _ (l : List ℕ) (x : ℕ) where
  longer : length (l ++ (x ∷ [])) ≡ length l + 1
  longer = length-append l (x ∷ [])

  in_front : (i : ℕ) → i < length l → get_or (l ++ (x ∷ [])) i 0 ≡ get_or l i 0
  in_front i h = get_or-append l (x ∷ []) 0 i h

  at_end : (i : ℕ) → i ≡ length l → get_or (l ++ (x ∷ [])) i 0 ≡ x
  at_end i e = ap (λ (k : ℕ). get_or (l ++ (x ∷ [])) k 0) e ∙ get_or-append_seam l x [] 0

module _ (grants : List ℕ) (m : ℕ) where
  -- the list below k
  abbrev up_to : ℕ → List ℕ
  up_to = granted_below grants m

  more_in : (k : ℕ) → granted grants m k ≡ true → up_to (suc k) ≡ up_to k ++ (k ∷ [])
  more_in k t = ap up_to (sym (add-one k)) ∙ below_in grants m k t

  more_out : (k : ℕ) → granted grants m k ≡ false → up_to (suc k) ≡ up_to k
  more_out k f = ap up_to (sym (add-one k)) ∙ below_out grants m k f

  -- what stands in it is below k and granted, and it rises
  record Only (l : List ℕ) (k : ℕ) : Type 0 where
    within : (i : ℕ) → i < length l → get_or l i 0 < k
    allowed : (i : ℕ) → i < length l → granted grants m (get_or l i 0) ≡ true
    rising : (i j : ℕ) → i < j → j < length l → get_or l i 0 < get_or l j 0

  only_more : (l : List ℕ) (k : ℕ) → granted grants m k ≡ true → Only l k → Only (l ++ (k ∷ [])) (suc k)
  only_more l k g so =
      let n = longer l k in
      record {
        within = λ i h. ⊎_elim
            (λ (e : i ≡ length l). rw (at_end l k i e) (omega arith))
            (λ (f : i < length l). rw (in_front l k i f) (omega (arith, so.within i f)))
            (eq-or-lt_of_le (let w : i ≤ length l = omega arith in w));
        allowed = λ i h. ⊎_elim
            (λ (e : i ≡ length l). rw (at_end l k i e) g)
            (λ (f : i < length l). rw (in_front l k i f) (so.allowed i f))
            (eq-or-lt_of_le (let w : i ≤ length l = omega arith in w));
        rising = λ i j hi hj. ⊎_elim
            (λ (e : j ≡ length l).
            let f : i < length l = omega arith in
            rw (at_end l k j e, in_front l k i f) (so.within i f))
            (λ (f : j < length l).
            let g : i < length l = omega arith in
            rw (in_front l k i g, in_front l k j f) (so.rising i j hi f))
            (eq-or-lt_of_le (let w : j ≤ length l = omega arith in w));
      }

  only_same : (l : List ℕ) (k : ℕ) → Only l k → Only l (suc k)
  only_same l k so = record { within = λ i h. omega (arith, so.within i h); allowed = so.allowed; rising = so.rising }

  below_only : (k : ℕ) → Only (up_to k) k
  unfolding granted_below
  below_only zero = record { within = λ i h. absurd (omega arith); allowed = λ i h. absurd (omega arith); rising = λ i j h g. absurd (omega arith) }
  below_only (suc k) = ⊎_elim
      (λ (t : granted grants m k ≡ true). rw (more_in k t) (only_more (up_to k) k t (below_only k)))
      (λ (f : granted grants m k ≡ false). rw (more_out k f) (only_same (up_to k) k (below_only k)))
      (either (granted grants m k))

  -- a granted sheet stands behind as many as are granted below it
  record Stands (k s : ℕ) : Type 0 where
    inside : length (up_to s) < length (up_to k)
    there : get_or (up_to k) (length (up_to s)) 0 ≡ s

  stands_in_lem : (k s : ℕ) → granted grants m k ≡ true → Stands k s → Stands (suc k) s
  stands_in_lem k s t so =
      let e = more_in k t in
      record {
        inside = omega (arith, so.inside, longer (up_to k) k, ap length e);
        there = ap (λ (l : List ℕ). get_or l (length (up_to s)) 0) e ∙ in_front (up_to k) k (length (up_to s)) so.inside ∙ so.there;
      }

  stands_out : (k s : ℕ) → granted grants m k ≡ false → Stands k s → Stands (suc k) s
  stands_out k s f so =
      let e = more_out k f in
      record { inside = omega (arith, so.inside, ap length e); there = ap (λ (l : List ℕ). get_or l (length (up_to s)) 0) e ∙ so.there }

  stands_now : (k : ℕ) → granted grants m k ≡ true → Stands (suc k) k
  stands_now k t =
      let e = more_in k t in
      record {
        inside = omega (arith, longer (up_to k) k, ap length e);
        there = ap (λ (l : List ℕ). get_or l (length (up_to k)) 0) e ∙ at_end (up_to k) k (length (up_to k)) refl;
      }

  stands : (k s : ℕ) → s < k → granted grants m s ≡ true → Stands k s
  stands zero s h g = absurd (omega arith)
  stands (suc k) s h g = ⊎_elim
      (λ (e : s ≡ k). rw e (stands_now k (ap (granted grants m) (sym e) ∙ g)))
      (λ (l : s < k).
      ⊎_elim
      (λ (t : granted grants m k ≡ true). stands_in_lem k s t (stands k s l g))
      (λ (f : granted grants m k ≡ false). stands_out k s f (stands k s l g))
      (either (granted grants m k)))
      (eq-or-lt_of_le (let w : s ≤ k = omega arith in w))

  pub granted_exactly : Exactly grants m (granted_sheets grants m)
  granted_exactly =
      let so = below_only sheets in
      record {
        only = λ i h. (so.within i h, so.allowed i h);
        every = λ s h g. (length (up_to s), (stands sheets s h g).inside, (stands sheets s h g).there);
        rising = so.rising;
      }

-- the reader finds the numbers that were written, whatever follows
parts_numbers : (b ss rest : List ℕ) → ((i : ℕ) → i < length ss → offset b (get_or ss i 0) + sheet_length b (get_or ss i 0) ≤ length b)
    → numbers (parts b ss ++ rest) (length ss) ≡ ss
unfolding numbers parts
parts_numbers b [] rest h = refl
parts_numbers b (s ∷ ss) rest h =
    let after : List ℕ = parts b ss ++ rest in
    ap (λ (l : List ℕ). numbers l (suc (length ss))) (append_assoc (part b s) (parts b ss) rest)
    ∙ ap₂ (λ (x : ℕ) (l : List ℕ). x ∷ l)
    (part_number b s (h 0 (omega arith)) after)
    (ap (λ (l : List ℕ). numbers l (length ss)) (part_next b s (h 0 (omega arith)) after) ∙ parts_numbers b ss rest (λ i l. h (suc i) (omega arith)))

-- a delivery's first two words, whatever follows
module _ (b ss rest : List ℕ) where
  headed : delivery_of b ss ++ rest ≡ bytes32 (length ss) ++ (bytes32 (delivery_length b ss) ++ (parts b ss ++ rest))
  headed = simp append_assoc

  pub delivery_count : le32 (delivery_of b ss ++ rest) 0 ≡ length ss
  delivery_count = ap (λ (l : List ℕ). le32 l 0) headed ∙ read_first (length ss) (delivery_length b ss) (parts b ss ++ rest)

  pub delivery_total : le32 (delivery_of b ss ++ rest) 4 ≡ delivery_length b ss
  delivery_total = ap (λ (l : List ℕ). le32 l 4) headed ∙ read_second (length ss) (delivery_length b ss) (parts b ss ++ rest)

  pub behind : drop 8 (delivery_of b ss ++ rest) ≡ parts b ss ++ rest
  behind = ap (drop 8) headed ∙ drop_head (length ss) (delivery_length b ss) (parts b ss ++ rest)

module _ (grants : List ℕ) (m : ℕ) (b rest : List ℕ) (ready : Ready grants m b) where
  -- the bytes of a granted sheet lie in the store
  pub inside : (i : ℕ) → i < length (granted_sheets grants m) → offset b (get_or (granted_sheets grants m) i 0) + sheet_length b (get_or (granted_sheets grants m) i 0) ≤ length b
  inside i h =
      let so = (granted_exactly grants m).only i h in
      let entry = sound b (get_or (granted_sheets grants m) i 0) (fault_free grants m b _ ready.sound so.0 so.1) in
      omega (arith, entry.within, (good b ready.taken).total)

  -- The list of delivered sheet numbers is the rising list of granted ones.
  pub delivery_lists : listed (delivery_of b (granted_sheets grants m) ++ rest) ≡ granted_sheets grants m
  delivery_lists =
      ap₂ numbers (behind b (granted_sheets grants m) rest) (delivery_count b (granted_sheets grants m) rest)
      ∙ parts_numbers b (granted_sheets grants m) rest inside

  -- A sheet is in a delivery exactly when it is granted.
  pub delivered_exactly : Exactly grants m (listed (delivery_of b (granted_sheets grants m) ++ rest))
  delivered_exactly = rw delivery_lists (granted_exactly grants m)
