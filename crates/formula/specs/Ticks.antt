-- The formula's parts as tests that compute. proofs/Meaning.antt ties each to its statement in Formula.antt.
use Rattle.std.specs.Prelude.{ℕ, Bool, not, ◌&&◌, ◌||◌, eqb}
use Rattle.rules.specs.Kinds.{LJ, SL, LA, SR, is_join, is_leave, is_add, is_remove}
use Rattle.formula.specs.Since.{since}
use Rattle.formula.specs.Formula.{History}

-- the model is in: (no SL and no LL) since a join
unfoldable pub inside : History → ℕ → Bool
inside model = since (λ k. not (is_leave (model k))) (λ j. is_join (model j))

-- the liberal stay of the sheet: (no SR and no LR) since an LA
unfoldable pub liberal : History → ℕ → Bool
liberal sheet = since (λ k. not (is_remove (sheet k))) (λ j. eqb (sheet j) LA)

module _ (model sheet : History) where
  unfoldable pub by_add : ℕ → Bool
  by_add t = is_add (sheet t) && inside model t

  unfoldable pub by_join : ℕ → Bool
  by_join t = eqb (model t) LJ && liberal sheet t

  abbrev pub moment : ℕ → Bool
  moment t = by_add t || by_join t

  abbrev pub strict : ℕ → Bool
  strict t = eqb (model t) SL || eqb (sheet t) SR

  unfoldable pub grant : ℕ → Bool
  grant t = since (λ k. not (strict k)) by_add t || since (λ k. not (strict k)) by_join t
