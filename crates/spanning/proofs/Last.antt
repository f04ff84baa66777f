-- The last of the pairs, of pairs that rise and stand apart. Assumes nothing.
use mathlib.Core.Path.{◌≡◌, refl, sym, ap, ◌∙◌}
use mathlib.Core.Bool.{true, false}
use mathlib.Core.List.{List, [], ◌∷◌}
use mathlib.Core.Logic.{inl, inr, ⊎_elim}
use Prim.Native.Nat.{ℕ, suc, ◌≤◌, ◌<◌}
use native.Mathlib.Omega.{arith}
use lib.Dec.{ltb}
use borrow.Author.Tests.{ltb-true, ltb-false}
use Rattle.base.proofs.Truth.{either}
use Rattle.spanning.specs.Spans.{Span, Apart, LiesIn}
use Rattle.spanning.specs.Told.{LastIs}

module _ (now : ℕ) where
  -- where the last pair begins, and that it is one
  pub last_after : (b : ℕ) (l : List Span) (q : Span) → Apart b now l → LastIs l q → b < q.first
  unfolding Apart LastIs
  last_after b [] q a x = absurd x
  last_after b (p ∷ []) q a x = rw (← x) a.0
  last_after b (p ∷ (r ∷ l)) q a x = omega (arith, a.0, a.1, last_after (suc p.last) (r ∷ l) q a.3 x)

  pub first_last : (b : ℕ) (l : List Span) (q : Span) → Apart b now l → LastIs l q → q.first ≤ q.last
  unfolding Apart LastIs
  first_last b [] q a x = absurd x
  first_last b (p ∷ []) q a x = rw (← x) a.1
  first_last b (p ∷ (r ∷ l)) q a x = first_last (suc p.last) (r ∷ l) q a.3 x

  -- the last pair's last tick lies in it, no later tick lies in a pair, nor does the tick before its first
  pub last_lies : (b : ℕ) (l : List Span) (q : Span) → Apart b now l → LastIs l q → LiesIn q.last l
  unfolding Apart LastIs LiesIn
  last_lies b [] q a x = absurd x
  last_lies b (p ∷ []) q a x = inl (rw (← x) a.1, rw x (omega arith))
  last_lies b (p ∷ (r ∷ l)) q a x = inr (last_lies (suc p.last) (r ∷ l) q a.3 x)

  pub lies_before : (b : ℕ) (l : List Span) (q : Span) (t : ℕ) → Apart b now l → LastIs l q → LiesIn t l → t ≤ q.last
  unfolding Apart LastIs LiesIn
  lies_before b [] q t a x y = absurd y
  lies_before b (p ∷ []) q t a x y = ⊎_elim (λ z. rw (← x) z.1) (λ z. absurd z) y
  lies_before b (p ∷ (r ∷ l)) q t a x y = ⊎_elim
      (λ z. omega (arith, z.1, last_after (suc p.last) (r ∷ l) q a.3 x, first_last (suc p.last) (r ∷ l) q a.3 x))
      (λ z. lies_before (suc p.last) (r ∷ l) q t a.3 x z)
      y

  pub not_before : (b : ℕ) (l : List Span) (q : Span) (u : ℕ) → Apart b now l → LastIs l q → suc u ≡ q.first → LiesIn u l → ⊥
  unfolding Apart LastIs LiesIn
  not_before b [] q u a x e y = y
  not_before b (p ∷ []) q u a x e y = ⊎_elim (λ z. omega (arith, z.0, ap (λ (k : Span). k.first) x)) (λ z. z) y
  not_before b (p ∷ (r ∷ l)) q u a x e y = ⊎_elim
      (λ z. omega (arith, z.1, last_after (suc p.last) (r ∷ l) q a.3 x))
      (λ z. not_before (suc p.last) (r ∷ l) q u a.3 x e z)
      y

  -- the pair in which u lies, where no later tick lies in a pair: the last, and it ends there
  pub last_up_to : (u b : ℕ) (l : List Span) → Apart b now l → LiesIn u l → ((k : ℕ) → u < k → k ≤ now → LiesIn k l → ⊥) → (q : Span) × LastIs l q × (q.last ≡ u)
  unfolding Apart LastIs LiesIn
  last_up_to u b [] a y h = absurd y
  last_up_to u b (p ∷ []) a y h = ⊎_elim
      (λ z. (
        p,
        refl,
        ⊎_elim
            (λ (c : ltb u p.last ≡ true). absurd (h p.last (ltb-true u p.last c) a.2 (inl (a.1, omega arith))))
            (λ (c : ltb u p.last ≡ false). omega (arith, ltb-false u p.last c, z.1))
            (either (ltb u p.last)),
      ))
      (λ z. absurd z)
      y
  last_up_to u b (p ∷ (r ∷ l)) a y h = ⊎_elim
      (λ z. absurd (h r.first (omega (arith, z.1, a.3.0)) (omega (arith, a.3.1, a.3.2)) (inr (inl (omega arith, a.3.1)))))
      (λ z. last_up_to u (suc p.last) (r ∷ l) a.3 z (λ k c d x. h k c d (inr x)))
      y

  -- no tick lies in a pair: there is none
  pub no_pair : (b : ℕ) (l : List Span) → Apart b now l → ((t : ℕ) → b < t → t ≤ now → LiesIn t l → ⊥) → l ≡ []
  unfolding Apart LiesIn
  no_pair b [] a h = refl
  no_pair b (p ∷ l) a h = absurd (h p.first a.0 (omega (arith, a.1, a.2)) (inl (omega arith, a.1)))

-- there is one last pair
pub one_last : (l : List Span) (p q : Span) → LastIs l p → LastIs l q → p ≡ q
unfolding LastIs
one_last [] p q x y = absurd x
one_last (r ∷ []) p q x y = sym x ∙ y
one_last (r ∷ (t ∷ l)) p q x y = one_last (t ∷ l) p q x y
