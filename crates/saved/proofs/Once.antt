-- Events have one book order: two lists that are the same events in book order are equal. Assumes nothing.
use mathlib.Core.Path.{◌≡◌, refl, sym, ap, ap₂, ◌∙◌}
use mathlib.Core.Bool.{true, false, cond}
use mathlib.Core.List.{List, [], ◌∷◌}
use mathlib.Core.Logic.{⊎_elim}
use Prim.Native.Nat.{ℕ, zero, suc, ◌+◌, ◌≤◌, ◌<◌}
use native.Mathlib.Nat.{eq-or-lt_of_le}
use native.Mathlib.Omega.{arith}
use lib.Dec.{eqb, leb}
use lib.ListN.{length, get_or}
use borrow.Author.Tests.{eq-eqb, ne_eqb, leb-true, leb-false}
use Rattle.base.specs.First.{first}
use Rattle.base.proofs.First.{first_before}
use Rattle.base.proofs.Truth.{either}
use Rattle.base.specs.Keep.{keep}
use Rattle.base.proofs.Keep.{keep_none}
use Rattle.tick.specs.Tick.{not_greater, rising}
use Rattle.saved.specs.Saved.{how_often, InBookOrder}
use Rattle.saved.proofs.Order.{passing_one}

-- each word is greater than the one before
abbrev Up : List ℕ → Type 0
Up ws = (i : ℕ) → suc i < length ws → get_or ws i 0 < get_or ws (suc i) 0

up : (ws : List ℕ) → rising ws ≡ true → Up ws
unfolding rising not_greater
up ws e i h =
    let far : length ws ≤ first (not_greater ws) (length ws) = leb-true _ _ e in
    leb-false (get_or ws (suc i) 0) (get_or ws i 0) (first_before (not_greater ws) (length ws) (suc i) (omega arith))

module _ (x : ℕ) (ws : List ℕ) (u : Up (x ∷ ws)) where
  up_tail : Up ws
  up_tail i h = u (suc i) (omega arith)

  above : (j : ℕ) → j < length ws → x < get_or ws j 0
  above zero h = u 0 (omega arith)
  above (suc j) h = let a = above j (omega arith) in let b = u (suc j) (omega arith) in omega arith

  -- a smaller word isn't there, and the first stands there
  absent : (w : ℕ) → w < x → how_often w (x ∷ ws) ≡ 0
  unfolding keep
  absent w l =
      let none : keep (λ v. eqb v w) ws ≡ [] = keep_none (λ v. eqb v w) ws (λ i h. let a = above i h in ne_eqb (get_or ws i 0) w (λ e. omega arith)) in
      simp (ne_eqb x w (λ e. omega arith), none)

  counted : (w : ℕ) → how_often w (x ∷ ws) ≡ cond (eqb x w) 1 0 + how_often w ws
  counted w = passing_one (λ v. eqb v w) x ws

  present : 0 < how_often x (x ∷ ws)
  present =
      let c : how_often x (x ∷ ws) ≡ 1 + how_often x ws = counted x ∙ ap (λ b. cond b 1 0 + how_often x ws) (eq-eqb x x refl) in
      omega arith

nothing : (w : ℕ) → how_often w [] ≡ 0
unfolding keep
nothing w = refl

same_words : (xs ys : List ℕ) → Up xs → Up ys → ((w : ℕ) → how_often w xs ≡ how_often w ys) → xs ≡ ys
same_words [] [] u v e = refl
same_words [] (y ∷ ys) u v e = absurd (omega (arith, present y ys v, e y, nothing y))
same_words (x ∷ xs) [] u v e = absurd (omega (arith, present x xs u, e x, nothing x))
same_words (x ∷ xs) (y ∷ ys) u v e =
    let here : x ≡ y = ⊎_elim
    (λ (t : leb x y ≡ true). ⊎_elim
    (λ (q : x ≡ y). q)
    (λ (l : x < y). absurd (omega (arith, present x xs u, e x, absent y ys v x l)))
    (eq-or-lt_of_le (leb-true _ _ t)))
    (λ (f : leb x y ≡ false). absurd (omega (arith, present y ys v, e y, absent x xs u y (leb-false _ _ f))))
    (either (leb x y)) in
    let rest : (w : ℕ) → how_often w xs ≡ how_often w ys = λ w.
    let first = ap (λ (z : ℕ). cond {A = ℕ} (eqb z w) 1 0) here in
    omega (arith, first, counted x xs u w, counted y ys v w, e w) in
    ap₂ (λ (z : ℕ) (l : List ℕ). z ∷ l) here (same_words xs ys (up_tail x xs u) (up_tail y ys v) rest)

pub one_book_order : (events xs ys : List ℕ) → InBookOrder events xs → InBookOrder events ys → xs ≡ ys
one_book_order events xs ys a b = same_words xs ys (up xs a.rises) (up ys b.rises) (λ w. a.each w ∙ sym (b.each w))
