-- How long a grant holds: from a moment up to the tick before the next strict event, and no longer where no other moment comes. Assumes nothing.
use mathlib.Core.Bool.{true, false}
use mathlib.Core.Path.{◌≡◌}
use mathlib.Core.Logic.{inl, inr, ⊎_elim}
use Prim.Native.Nat.{ℕ, ◌≤◌, ◌<◌}
use native.Mathlib.Omega.{arith}
use lib.Dec.{ltb}
use borrow.Author.Tests.{ltb-true, ltb-false}
use Rattle.base.proofs.Truth.{either}
use Rattle.formula.specs.Formula.{History, SL, SR, ByAdd, ByJoin, Moment, Strict, Grant}
use Rattle.formula.specs.Since.{Since}
use Rattle.formula.specs.Judged.{Latest, Earliest}

module _ (model sheet : History) where
  -- a grant has a moment
  pub grant_moment : (u : ℕ) → Grant model sheet u → ((t : ℕ) → 1 ≤ t → t ≤ u → ¬ Moment model sheet t) → ⊥
  grant_moment u g h = ⊎_elim (λ s. h s.0 s.1 s.2 (inl s.3)) (λ s. h s.0 s.1 s.2 (inr s.3)) g

  -- no strict event after a moment: the grant holds
  pub kept : (t u : ℕ) → 1 ≤ t → t ≤ u → Moment model sheet t → ((k : ℕ) → t < k → k ≤ u → ¬ Strict model sheet k) → Grant model sheet u
  kept t u from upto there h = ⊎_elim
      (λ a. inl (t, from, upto, a, λ k x y. (λ z. h k x y (inl z), λ z. h k x y (inr z))))
      (λ j. inr (t, from, upto, j, λ k x y. (λ z. h k x y (inl z), λ z. h k x y (inr z))))
      there

  module _ (now t : ℕ) (latest : Latest model sheet now t) where
    -- it holds since a moment that is no later than the latest: nothing strict came after that one
    since_then : (Q : ℕ → Type 0) → ((j : ℕ) → Q j → Moment model sheet j) → (u : ℕ) → u ≤ now → Since (λ k. (¬ SL model sheet k) × (¬ SR model sheet k)) Q u
        → (k : ℕ) → t < k → k ≤ u → ¬ Strict model sheet k
    since_then Q q u h s k x y = ⊎_elim
        (λ (b : ltb t s.0 ≡ true). absurd (latest.later s.0 (ltb-true t s.0 b) (omega (arith, s.2)) (q s.0 s.3)))
        (λ (b : ltb t s.0 ≡ false). let free = s.4 k (omega (arith, ltb-false t s.0 b)) y in ⊎_elim free.0 free.1)
        (either (ltb t s.0))

    nothing_strict : (u : ℕ) → u ≤ now → Grant model sheet u → (k : ℕ) → t < k → k ≤ u → ¬ Strict model sheet k
    nothing_strict u h g = ⊎_elim (since_then (ByAdd model sheet) (λ j. inl) u h) (since_then (ByJoin model sheet) (λ j. inr) u h) g

    -- a grant that holds at now holds since the latest moment
    pub held_since : Grant model sheet now → (u : ℕ) → t ≤ u → u ≤ now → Grant model sheet u
    held_since g u h b = kept t u latest.from h latest.there (λ k x y. nothing_strict now (omega arith) g k x (omega arith))

    -- one that is ended held from the latest moment up to the tick before the strict event, and from that event's tick on it doesn't
    module _ (e : ℕ) (earliest : Earliest model sheet t now e) where
      pub held_before : (u : ℕ) → t ≤ u → u < e → Grant model sheet u
      held_before u h b = kept t u latest.from h latest.there (λ k x y. earliest.earlier k x (omega arith))

      pub ended_from : (u : ℕ) → e ≤ u → u ≤ now → ¬ Grant model sheet u
      ended_from u h b g = nothing_strict u b g e earliest.from h earliest.there
