-- The grant formula of CS-TR-2011-016, section 2.2, for one model (the report's user) and one sheet (its object) in one group.
-- A history gives the kind of the carrier's event in each tick, `quiet` where it has none: the report's conditions that no carrier has two events in one tick hold by that.
use Rattle.std.specs.Prelude.{ℕ, ◌≡◌, ◌⊎◌}
use Rattle.rules.specs.Kinds as kinds
use Rattle.formula.specs.Since.{Since}

abbrev pub History : Type 0
History = ℕ → ℕ

module _ (model sheet : History) where
  -- the report's action predicates
  abbrev pub SJ : ℕ → Type 0
  SJ t = model t ≡ kinds.SJ

  abbrev pub LJ : ℕ → Type 0
  LJ t = model t ≡ kinds.LJ

  abbrev pub SL : ℕ → Type 0
  SL t = model t ≡ kinds.SL

  abbrev pub LL : ℕ → Type 0
  LL t = model t ≡ kinds.LL

  abbrev pub SA : ℕ → Type 0
  SA t = sheet t ≡ kinds.SA

  abbrev pub LA : ℕ → Type 0
  LA t = sheet t ≡ kinds.LA

  abbrev pub SR : ℕ → Type 0
  SR t = sheet t ≡ kinds.SR

  abbrev pub LR : ℕ → Type 0
  LR t = sheet t ≡ kinds.LR

  -- the brackets. First: an add of either kind, at a tick where (no SL and no LL) since a join of either kind
  abbrev pub ByAdd : ℕ → Type 0
  ByAdd t = (SA t ⊎ LA t) × Since (λ k. (¬ SL k) × (¬ LL k)) (λ j. SJ j ⊎ LJ j) t

  -- Second: an LJ, at a tick where (no SR and no LR) since an LA
  abbrev pub ByJoin : ℕ → Type 0
  ByJoin t = LJ t × Since (λ k. (¬ SR k) × (¬ LR k)) LA t

  -- the grant: (no SL and no SR) since the first bracket, or since the second
  abbrev pub Grant : ℕ → Type 0
  Grant t = Since (λ k. (¬ SL k) × (¬ SR k)) ByAdd t ⊎ Since (λ k. (¬ SL k) × (¬ SR k)) ByJoin t

  -- "A tick where a bracket holds is a moment."
  abbrev pub Moment : ℕ → Type 0
  Moment t = ByAdd t ⊎ ByJoin t

  -- what can end a grant
  abbrev pub Strict : ℕ → Type 0
  Strict t = SL t ⊎ SR t
