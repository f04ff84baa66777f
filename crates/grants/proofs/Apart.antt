-- The close in two steps: what an SL takes from every word, and the rest of the tick, word of sheets by word of sheets. Assumes nothing.
use mathlib.Core.Path.{◌≡◌, refl, sym, ◌∙◌, ap}
use mathlib.Core.Bool.{Bool, true, false, cond}
use mathlib.Core.Logic.{⊎_elim}
use mathlib.Core.List.{List}
use Prim.Native.Nat.{ℕ, zero, suc, ◌+◌, ◌-◌, ◌*◌, ◌/◌, ◌%◌, ◌^◌, ◌≤◌, ◌<◌}
use native.Mathlib.Omega.{arith}
use native.Mathlib.Nat.{mod-eq_of_lt}
use borrow.Author.Tests.{ltb-true, ltb-false, eqb-true, eqb-false, lt-ltb, le-ltb, eq-eqb, ne_eqb}
use lib.Bits.{bit_and, bit_or, or_zero_r, and_mask}
use lib.Dec.{eqb, ltb}
use lib.ListN.{length, get_or, set}
use lib.Seq.{ext_get_or}
use Rattle.base.proofs.Front.{front, front_none, front_same, turn, last}
use Rattle.base.proofs.Truth.{either, neither}
use Rattle.base.proofs.Table.{length_table, get_or_table, table_ext}
use Rattle.rules.specs.Ranges.{sheets}
use Rattle.bits.specs.Bit.{width, bit, next_bit}
use Rattle.sets.specs.Set.{has}
use Rattle.bits.proofs.Bit.{bit_or_lem}
use Rattle.bits.proofs.Next.{next_le, next_from, next_unset}
use Rattle.grants.specs.Words.{Sized, closed_word, closed_words}
use Rattle.grants.specs.Gain.{lost_words, gained_word, changed_sheets, gained_words, gained_in}

pub closed_apart : (words sr adds liberal : List ℕ) (members sl lj : ℕ)
    → gained_words (lost_words words sl) sr adds liberal members lj ≡ closed_words words sr adds liberal members sl lj
unfolding closed_word closed_words lost_words gained_word gained_words
closed_apart words sr adds liberal members sl lj = table_ext sheets _ _ (λ s h. ap (λ (w : ℕ). gained_word w (has sr s) (has adds s) (has liberal s) members lj) (get_or_table sheets _ s 0 h))

pub length_lost : (words : List ℕ) (sl : ℕ) → length (lost_words words sl) ≡ sheets
unfolding lost_words
length_lost words sl = length_table sheets (λ s. bit_and (get_or words s 0) ((2 ^ width - 1) - sl))

-- without an SL no word loses anything
pub lost_none : (words : List ℕ) → Sized sheets words → lost_words words 0 ≡ words
unfolding lost_words
lost_none words z =
    let long = length_lost words 0 in
    ext_get_or 0 _ words (long ∙ sym z.long) (λ s h. get_or_table sheets _ s 0 (rw long at h) ∙ and_mask (get_or words s 0) width ∙ mod-eq_of_lt (z.words s))

-- no model has an LJ, or the sheet is not in by LA
none_by_lj : (liberal lj i : ℕ) → bit (cond (eqb lj 0) 0 liberal) i ≡ false → cond (bit liberal i) lj 0 ≡ 0
none_by_lj liberal zero i e = ⊎_elim (λ t. rw t refl) (λ f. rw f refl) (either (bit liberal i))
none_by_lj liberal (suc lj) i e = let out = rw (ne_eqb (suc lj) 0 (λ z. omega arith)) at e in rw out refl

-- a sheet that doesn't change keeps its word
unchanged : (w sr adds liberal members lj i : ℕ) → bit (changed_sheets sr adds liberal lj) i ≡ false → gained_word w (bit sr i) (bit adds i) (bit liberal i) members lj ≡ w
unfolding gained_word
unchanged w sr adds liberal members lj i e =
    let a = neither (bit (bit_or sr adds) i) _ (sym (bit_or_lem (bit_or sr adds) (cond (eqb lj 0) 0 liberal) i) ∙ e) in
    let b = neither (bit sr i) (bit adds i) (sym (bit_or_lem sr adds i) ∙ a.0) in
    rw (b.0, b.1, none_by_lj liberal lj i a.1) (or_zero_r _ ∙ or_zero_r w)

-- the sheets of word k, from one that changes to the next
module _ (k : ℕ) (words : List ℕ) (sr adds liberal members lj : ℕ) where
  stays : (s : ℕ) → s < sheets → (s / width ≡ k → bit (changed_sheets sr adds liberal lj) (s % width) ≡ false) → get_or (gained_in k words sr adds liberal members lj) s 0 ≡ get_or words s 0
  unfolding gained_in
  stays s h e = get_or_table sheets _ s 0 h ∙ ⊎_elim
      (λ (t : eqb (s / width) k ≡ true). rw t (unchanged (get_or words s 0) sr adds liberal members lj (s % width) (e (eqb-true _ _ t))))
      (λ (f : eqb (s / width) k ≡ false). rw f refl)
      (either (eqb (s / width) k))

  -- where i is at place `from` of word k, or before it and `from` is 0
  passed : (change i from next : ℕ) → k < 4 → from ≤ width → i ≤ k * 64 + from → change ≡ changed_sheets sr adds liberal lj → next ≡ next_bit change from
      → ((s : ℕ) → i ≤ s → s / width ≡ k → from ≤ s % width) → front (gained_in k words sr adds liberal members lj) words i ≡ front (gained_in k words sr adds liberal members lj) words (k * 64 + next)
  passed change i from next few l m ec en h =
      let n = en ∙ ap (λ (x : ℕ). next_bit x from) ec in
      let upto = next_le (changed_sheets sr adds liberal lj) from in
      let on = next_from (changed_sheets sr adds liberal lj) from l in
      front_same _ words i (k * 64 + next) (omega arith) (λ s a b. stays s (omega arith) (λ e. next_unset _ from (s % width) (h s a e) (omega arith)))

  pub word_start : (change next : ℕ) → k < 4 → change ≡ changed_sheets sr adds liberal lj → next ≡ next_bit change 0 → words ≡ front (gained_in k words sr adds liberal members lj) words (k * 64 + next)
  word_start change next few ec en = sym (front_none _ words) ∙ passed change 0 0 next few (omega arith) (omega arith) ec en (λ s a e. omega arith)

  -- the sheet at place i gets its new word, and those up to the next one that changes keep theirs
  pub word_turn : (change next : ℕ) (out : List ℕ) (i r : ℕ) (x y z : Bool) → k < 4 → i < width → change ≡ changed_sheets sr adds liberal lj → next ≡ next_bit change (i + 1)
      → out ≡ front (gained_in k words sr adds liberal members lj) words (k * 64 + i)
      → r ≡ gained_word (get_or out (k * 64 + i) 0) x y z members lj → x ≡ bit sr i → y ≡ bit adds i → z ≡ bit liberal i
      → set out (k * 64 + i) r ≡ front (gained_in k words sr adds liberal members lj) words (k * 64 + next)
  unfolding gained_in
  word_turn change next out i r x y z few l ec en eo er ex ey ez =
      let word : (k * 64 + i) / width ≡ k = omega arith in
      let place : (k * 64 + i) % width ≡ i = omega arith in
      turn sheets (λ s w. cond (eqb (s / width) k) (gained_word w (bit sr (s % width)) (bit adds (s % width)) (bit liberal (s % width)) members lj) w) words out (k * 64 + i) r (omega arith) eo
      (rw (word, place, eq-eqb k k refl, ← ex, ← ey, ← ez) er)
      ∙ passed change (k * 64 + i + 1) (i + 1) next few (omega arith) (omega arith) ec en (λ s a e. omega arith)

  pub word_end : (out : List ℕ) (i : ℕ) → k < 4 → length words ≡ sheets → i ≡ width
      → out ≡ front (gained_in k words sr adds liberal members lj) words (k * 64 + i) → out ≡ gained_in k words sr adds liberal members lj
  unfolding gained_in
  word_end out i few long e eo =
      last sheets sheets _ words out long refl (eo ∙ front_same _ words (k * 64 + i) sheets (omega arith) (λ s a b. stays s b (λ q. absurd (omega arith))))

-- the sheets of the first k words have their new words and the others their old ones
abbrev pub Upto : List ℕ → List ℕ → ℕ → List ℕ → Type 0
Upto new old k out = (length out ≡ sheets) × ((s : ℕ) → s < sheets → get_or out s 0 ≡ cond (ltb (s / width) k) (get_or new s 0) (get_or old s 0))

module _ (words sr adds liberal : List ℕ) (members lj k : ℕ) (out : List ℕ) (u : Upto (gained_words words sr adds liberal members lj) words k out) where
  pub upto_all : k ≡ 4 → out ≡ gained_words words sr adds liberal members lj
  unfolding gained_words
  upto_all e = ext_get_or 0 out _ (u.0 ∙ sym (length_table sheets _)) (λ s h. u.1 s (omega (arith, u.0)) ∙ rw (lt-ltb (s / width) k (omega (arith, u.0))) refl)

  pub upto_more : (x y z : ℕ) (next : List ℕ) → x ≡ get_or sr k 0 → y ≡ get_or adds k 0 → z ≡ get_or liberal k 0 → next ≡ gained_in k out x y z members lj
      → Upto (gained_words words sr adds liberal members lj) words (k + 1) next
  unfolding gained_in gained_words has
  upto_more x y z next ex ey ez e = rw (e, ex, ey, ez) (
    length_table sheets _,
    λ s h. get_or_table sheets _ s 0 h ∙ rw (u.1 s h) (⊎_elim
        (λ (t : eqb (s / width) k ≡ true).
        let q : s / width ≡ k = eqb-true _ _ t in
        rw (q, eq-eqb k k refl, le-ltb k k (omega arith), lt-ltb k (k + 1) (omega arith), get_or_table, q) refl)
        (λ (f : eqb (s / width) k ≡ false). rw f (⊎_elim
        (λ (t : ltb (s / width) k ≡ true). rw (t, lt-ltb (s / width) (k + 1) (omega (arith, ltb-true (s / width) k t))) refl)
        (λ (n : ltb (s / width) k ≡ false). rw (n, le-ltb (s / width) (k + 1) (omega (arith, ltb-false (s / width) k n, eqb-false (s / width) k f))) refl)
        (either (ltb (s / width) k))))
        (either (eqb (s / width) k))),
  )
