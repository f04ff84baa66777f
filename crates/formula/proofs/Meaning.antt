-- Each test of specs/Ticks.antt says its statement of specs/Formula.antt; above all, the grant. Assumes nothing.
use mathlib.Core.Bool.{not}
use Prim.Native.Nat.{ℕ}
use Rattle.rules.specs.Kinds as kinds
use Rattle.formula.specs.Formula.{History, SL, SR, ByAdd, ByJoin, Grant, Moment, Strict}
use Rattle.formula.specs.Ticks.{inside, liberal, by_add, by_join, moment, strict, grant}
use Rattle.formula.proofs.Says.{Says, says_eq, says_or, says_and, says_neither, says_since}

module _ (model sheet : History) where
  pub means_add : (t : ℕ) → Says (by_add model sheet t) (ByAdd model sheet t)
  unfolding by_add inside
  means_add t =
      says_and _ _ (says_or _ _ (says_eq (sheet t) kinds.SA) (says_eq (sheet t) kinds.LA))
      (says_since
      (λ k. says_neither _ _ (says_eq (model k) kinds.SL) (says_eq (model k) kinds.LL))
      (λ j. says_or _ _ (says_eq (model j) kinds.SJ) (says_eq (model j) kinds.LJ))
      t)

  pub means_join : (t : ℕ) → Says (by_join model sheet t) (ByJoin model sheet t)
  unfolding by_join liberal
  means_join t =
      says_and _ _ (says_eq (model t) kinds.LJ)
      (says_since
      (λ k. says_neither _ _ (says_eq (sheet k) kinds.SR) (says_eq (sheet k) kinds.LR))
      (λ j. says_eq (sheet j) kinds.LA)
      t)

  pub means_moment : (t : ℕ) → Says (moment model sheet t) (Moment model sheet t)
  means_moment t = says_or _ _ (means_add t) (means_join t)

  pub means_strict : (t : ℕ) → Says (strict model sheet t) (Strict model sheet t)
  means_strict t = says_or _ _ (says_eq (model t) kinds.SL) (says_eq (sheet t) kinds.SR)

  -- neither SL nor SR
  means_free : (t : ℕ) → Says (not (strict model sheet t)) ((¬ SL model sheet t) × (¬ SR model sheet t))
  means_free t = says_neither _ _ (says_eq (model t) kinds.SL) (says_eq (sheet t) kinds.SR)

  -- the test of the grant is the published formula
  pub means_grant : (t : ℕ) → Says (grant model sheet t) (Grant model sheet t)
  unfolding grant
  means_grant t = says_or _ _ (says_since means_free means_add t) (says_since means_free means_join t)
