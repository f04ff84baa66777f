-- Laws of sets kept as words, over how many words there are and over the number. Assumes nothing.
use mathlib.Core.Path.{◌≡◌, refl, sym, ap, ap₂, ◌∙◌}
use mathlib.Core.Bool.{Bool, false, not, ◌&&◌, ◌||◌, or-false}
use mathlib.Core.List.{List}
use mathlib.Core.Logic.{⊎_elim}
use Prim.Native.Nat.{ℕ, zero, suc, ◌+◌, ◌*◌, ◌/◌, ◌%◌, ◌^◌, ◌≤◌, ◌<◌}
use native.Mathlib.Nat.{mod-lt, zero-lt-suc}
use native.Mathlib.Omega.{arith}
use lib.Dec.{eqb, ltb}
use lib.Bits.{bit_or, or_lt}
use lib.ListN.{length, get_or, set, length-set, get_or-eq_default}
use lib.Seq.{get_or-set_same, get_or-set_other}
use borrow.Author.Tests.{eq-eqb, ne_eqb, eqb-true, eqb-false, ltb-true, ltb-false}
use Rattle.base.specs.Table.{table}
use Rattle.base.proofs.Truth.{either as truth}
use Rattle.base.proofs.Table.{length_table, get_or_table}
use Rattle.bits.specs.Bit.{width, bit, with_bit, after_word}
use Rattle.sets.specs.Set.{none, has, with, either, after, Words}
use Rattle.bits.proofs.Bit.{bit_zero, bit_or_lem, bit_with, with_lt, bit_after, after_lt}

place_lt : (i : ℕ) → i % width < width
place_lt i = mod-lt i (zero-lt-suc 63)

-- a bit of a word is a number of the set
pub bit_has : (ws : List ℕ) (k i : ℕ) → i < width → bit (get_or ws k 0) i ≡ has ws (k * width + i)
unfolding has
bit_has ws k i h =
    let word : k ≡ (k * width + i) / width = omega arith in
    let place : i ≡ (k * width + i) % width = omega arith in
    ap₂ (λ (x y : ℕ). bit (get_or ws x 0) y) word place

-- ---- a number put in

-- two numbers of one word are one where their places are
same_place : (i j : ℕ) → j / width ≡ i / width → eqb (j % width) (i % width) ≡ eqb j i
same_place i j q = ⊎_elim
    (λ t. let e : j % width ≡ i % width = eqb-true _ _ t in t ∙ sym (eq-eqb j i (omega arith)))
    (λ f. f ∙ sym (ne_eqb j i (λ e. eqb-false _ _ f (ap (λ (x : ℕ). x % width) e))))
    (truth (eqb (j % width) (i % width)))

pub has_with : (ws : List ℕ) (i j : ℕ) → i / width < length ws → has (with ws i) j ≡ has ws j || eqb j i
unfolding has with
has_with ws i j h = ⊎_elim
    (λ t.
    let q : j / width ≡ i / width = eqb-true _ _ t in
    ap (λ (k : ℕ). bit (get_or (set ws (i / width) (with_bit (get_or ws (i / width) 0) (i % width))) k 0) (j % width)) q
    ∙ ap (λ (w : ℕ). bit w (j % width)) (get_or-set_same ws (i / width) (with_bit (get_or ws (i / width) 0) (i % width)) 0 h)
    ∙ bit_with (get_or ws (i / width) 0) (i % width) (j % width)
    ∙ ap₂ (λ (k : ℕ) (b : Bool). bit (get_or ws k 0) (j % width) || b) (sym q) (same_place i j q))
    (λ f.
    let apart : j / width ≡ i / width → ⊥ = eqb-false _ _ f in
    ap (λ (w : ℕ). bit w (j % width)) (get_or-set_other ws (i / width) (j / width) (with_bit (get_or ws (i / width) 0) (i % width)) 0 apart)
    ∙ sym (ap (λ (b : Bool). bit (get_or ws (j / width) 0) (j % width) || b) (ne_eqb j i (λ e. apart (ap (λ (x : ℕ). x / width) e))) ∙ or-false _))
    (truth (eqb (j / width) (i / width)))

pub length_with : (ws : List ℕ) (i : ℕ) → length (with ws i) ≡ length ws
unfolding with
length_with ws i = length-set ws _ _

pub words_with : (ws : List ℕ) (i : ℕ) → Words ws → i / width < length ws → Words (with ws i)
unfolding with
words_with ws i h l k = ⊎_elim
    (λ t.
    let q : k ≡ i / width = eqb-true _ _ t in
    rw (q, get_or-set_same ws (i / width) (with_bit (get_or ws (i / width) 0) (i % width)) 0 l) (with_lt width _ _ (h (i / width)) (place_lt i)))
    (λ f. rw (get_or-set_other ws (i / width) k (with_bit (get_or ws (i / width) 0) (i % width)) 0 (eqb-false _ _ f)) (h k))
    (truth (eqb k (i / width)))

-- ---- the empty set

pub get_or_none : (n k : ℕ) → get_or (none n) k 0 ≡ 0
get_or_none zero k = refl
get_or_none (suc n) zero = refl
get_or_none (suc n) (suc k) = get_or_none n k

pub has_none : (n i : ℕ) → has (none n) i ≡ false
unfolding has
has_none n i = ap (λ (w : ℕ). bit w (i % width)) (get_or_none n (i / width)) ∙ bit_zero (i % width)

pub words_none : (n : ℕ) → Words (none n)
words_none n k = rw (get_or_none n k) (omega arith)

-- ---- sets made word by word

-- what a table of n words holds at any place: past its end nothing
pub words_table : (n : ℕ) (f : ℕ → ℕ) → ((k : ℕ) → f k < 2 ^ width) → Words (table n f)
words_table n f h k = ⊎_elim
    (λ t. rw (get_or_table n f k 0 (ltb-true _ _ t)) (h k))
    (λ e.
    let past : length (table n f) ≤ k = rw (length_table n f) (ltb-false _ _ e) in
    rw (get_or-eq_default (table n f) 0 past) (omega arith))
    (truth (ltb k n))

module _ (n : ℕ) (xs ys : List ℕ) where
  pub has_either : (i : ℕ) → i / width < n → has (either n xs ys) i ≡ has xs i || has ys i
  unfolding has either
  has_either i h = ap (λ (w : ℕ). bit w (i % width)) (get_or_table n (λ k. bit_or (get_or xs k 0) (get_or ys k 0)) (i / width) 0 h) ∙ bit_or_lem _ _ (i % width)

  pub words_either : Words xs → Words ys → Words (either n xs ys)
  unfolding either
  words_either hx hy = words_table n _ (λ k. or_lt width _ _ (hx k) (hy k))

module _ (n : ℕ) (was gone come : List ℕ) where
  pub has_after : (i : ℕ) → Words was → Words gone → i / width < n → has (after n was gone come) i ≡ has was i && not (has gone i) || has come i
  unfolding has after
  has_after i hw hg h =
      ap (λ (w : ℕ). bit w (i % width)) (get_or_table n (λ k. after_word (get_or was k 0) (get_or gone k 0) (get_or come k 0)) (i / width) 0 h)
      ∙ bit_after _ _ _ (i % width) (hw (i / width)) (hg (i / width))

  pub length_after : length (after n was gone come) ≡ n
  unfolding after
  length_after = length_table n _

  pub words_after : Words was → Words come → Words (after n was gone come)
  unfolding after
  words_after hw hc = words_table n _ (λ k. after_lt _ _ _ (hw k) (hc k))
