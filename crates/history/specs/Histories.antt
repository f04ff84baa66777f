-- The rules' histories to be proved (RULES.md 14.1), as one table: the model's events, the sheet's, now, and what the judge says.
use Rattle.std.specs.Prelude.{ℕ, List, [], ◌∷◌, Result, Ok}
use Rattle.rules.specs.declared.refusal.Refusal.{Refusal}
use Rattle.rules.specs.Kinds as kinds
use Rattle.event.specs.Word.{word_of}
use Rattle.formula.specs.declared.Verdict.{Verdict}
use Rattle.formula.specs.declared.Verdict.TheVariants.{Granted, Denied}
use Rattle.formula.specs.declared.Moment.TheVariants.{Add, Join}
use Rattle.formula.specs.declared.Cause.TheVariants.{None, StrictLeave}
use Rattle.judge.specs.Judge.{judged_by}

-- an event of carrier 0, by its kind and tick
abbrev SJ : ℕ → ℕ
SJ t = word_of t kinds.SJ 0

abbrev LJ : ℕ → ℕ
LJ t = word_of t kinds.LJ 0

abbrev SL : ℕ → ℕ
SL t = word_of t kinds.SL 0

abbrev LL : ℕ → ℕ
LL t = word_of t kinds.LL 0

abbrev SA : ℕ → ℕ
SA t = word_of t kinds.SA 0

abbrev LA : ℕ → ℕ
LA t = word_of t kinds.LA 0

abbrev SR : ℕ → ℕ
SR t = word_of t kinds.SR 0

abbrev LR : ℕ → ℕ
LR t = word_of t kinds.LR 0

pub record Row : Type 0 where
  pub model : List ℕ
  pub sheet : List ℕ
  pub now : ℕ
  pub says : Result Verdict Refusal

row : List ℕ → List ℕ → ℕ → Verdict → Row
row m s now v = record { model = m; sheet = s; now = now; says = Ok v }

unfoldable pub histories : List Row
unfolding row
histories =
    row [] [] 0 (Denied None)
    ∷ row (SJ 1 ∷ []) (SA 1 ∷ []) 1 (Granted (Add 1))
    ∷ row (LJ 1 ∷ []) (LA 1 ∷ []) 1 (Granted (Add 1))
    ∷ row (SJ 2 ∷ []) (LA 1 ∷ []) 2 (Denied None)
    ∷ row (LJ 2 ∷ []) (LA 1 ∷ []) 2 (Granted (Join 2))
    ∷ row (LJ 2 ∷ []) (SA 1 ∷ []) 2 (Denied None)
    ∷ row (LJ 1 ∷ LL 2 ∷ []) (SA 2 ∷ []) 2 (Denied None)
    ∷ row (LJ 2 ∷ []) (LA 1 ∷ LR 2 ∷ []) 2 (Denied None)
    ∷ row (SJ 1 ∷ LL 3 ∷ []) (SA 2 ∷ LR 4 ∷ []) 5 (Granted (Add 2))
    ∷ row (SJ 1 ∷ SL 3 ∷ []) (SA 2 ∷ SR 3 ∷ []) 3 (Denied (StrictLeave 3))
    ∷ row (SJ 1 ∷ LL 2 ∷ SJ 4 ∷ []) (LA 3 ∷ []) 4 (Denied None)
    ∷ row (SJ 1 ∷ SL 2 ∷ LJ 3 ∷ []) (LA 1 ∷ []) 3 (Granted (Join 3))
    ∷ row (SJ 1 ∷ []) (SA 2 ∷ SR 3 ∷ LA 4 ∷ []) 4 (Granted (Add 4))
    ∷ []

-- what the judge says of a row
abbrev pub asked : Row → Result Verdict Refusal
asked r = judged_by r.model r.sheet r.now
