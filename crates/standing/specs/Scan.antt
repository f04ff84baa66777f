-- The judge's pass, tick by tick: what the code follows. proofs/Tells.antt shows that it tells the verdict of the formula.
use Rattle.std.specs.Prelude.{ℕ, zero, suc, Bool, true, false, cond, not, ◌&&◌, ◌||◌, eqb}
use Rattle.rules.specs.Kinds.{LJ, SL, LA, SR, is_join, is_leave, is_add, is_remove}
use Rattle.formula.specs.Formula.{History}
use Rattle.formula.specs.declared.Verdict.{Verdict}
use Rattle.formula.specs.declared.Verdict.TheVariants.{Granted, Denied}
use Rattle.formula.specs.declared.Moment.TheVariants.{Add, Join}
use Rattle.formula.specs.declared.Cause.TheVariants.{None, StrictLeave, StrictRemove}
use Rattle.standing.specs.declared.Standing.{Standing}
use Rattle.standing.specs.declared.Standing.TheVariants.{Never, ByAdd, ByJoin, Left, Removed}
use Rattle.standing.specs.declared.Seen.{Seen}

-- what the standing tells
abbrev pub told_by : Standing → Verdict
told_by Never = Denied None
told_by (ByAdd t) = Granted (Add t)
told_by (ByJoin t) = Granted (Join t)
told_by (Left t) = Denied (StrictLeave t)
told_by (Removed t) = Denied (StrictRemove t)

-- a strict event ends a grant and nothing else
abbrev pub ended_by : Standing → Standing → Standing
ended_by Never end = Never
ended_by (ByAdd t) end = end
ended_by (ByJoin t) end = end
ended_by (Left t) end = Left t
ended_by (Removed t) end = Removed t

abbrev pub stands_after : Standing → ℕ → Bool → Bool → Bool → Bool → Standing
stands_after before t by_add by_join left removed =
    cond by_add (ByAdd t) (cond by_join (ByJoin t) (cond left (ended_by before (Left t)) (cond removed (ended_by before (Removed t)) before)))

abbrev pub start : Seen
start = record { inside = false; liberal = false; standing = Never }

-- one tick, with the kinds of the model's and of the sheet's event in it
abbrev pub step_of : Seen → ℕ → ℕ → ℕ → Seen
step_of seen t model sheet =
    let inside = is_join model || (not (is_leave model) && seen.inside) in
    let liberal = eqb sheet LA || (not (is_remove sheet) && seen.liberal) in
    record {
      inside = inside;
      liberal = liberal;
      standing = stands_after seen.standing t (is_add sheet && inside) (eqb model LJ && liberal) (eqb model SL) (eqb sheet SR);
    }

-- after ticks 1 to t
unfoldable pub scan_to : History → History → ℕ → Seen
scan_to model sheet zero = start
scan_to model sheet (suc t) = step_of (scan_to model sheet t) (suc t) (model (suc t)) (sheet (suc t))

-- the grant holds
abbrev pub holding : Standing → Bool
holding Never = false
holding (ByAdd t) = true
holding (ByJoin t) = true
holding (Left t) = false
holding (Removed t) = false
