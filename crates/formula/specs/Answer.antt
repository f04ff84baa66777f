-- The rules' number and value for each case of the judge's answer: a verdict, or a refusal (RULES.md 6.3).
use Rattle.std.specs.Prelude.{ℕ, Result, Ok, Err}
use Rattle.rules.specs.Refusal.{refusal_number, refusal_place}
use Rattle.rules.specs.declared.refusal.Refusal.{Refusal}
use Rattle.formula.specs.declared.Verdict.{Verdict}
use Rattle.formula.specs.declared.Verdict.TheVariants.{Granted, Denied}
use Rattle.formula.specs.declared.Moment.TheVariants.{Add, Join}
use Rattle.formula.specs.declared.Cause.TheVariants.{None, StrictLeave, StrictRemove}

-- "101 by add and 102 by join with the tick; 103 none with 0; 104 strict leave and 105 strict remove with the tick; a refusal's number with its place"
abbrev pub verdict_number : Result Verdict Refusal → ℕ
verdict_number (Ok (Granted (Add t))) = 101
verdict_number (Ok (Granted (Join t))) = 102
verdict_number (Ok (Denied None)) = 103
verdict_number (Ok (Denied (StrictLeave t))) = 104
verdict_number (Ok (Denied (StrictRemove t))) = 105
verdict_number (Err refusal) = refusal_number refusal

abbrev pub verdict_value : Result Verdict Refusal → ℕ
verdict_value (Ok (Granted (Add t))) = t
verdict_value (Ok (Granted (Join t))) = t
verdict_value (Ok (Denied None)) = 0
verdict_value (Ok (Denied (StrictLeave t))) = t
verdict_value (Ok (Denied (StrictRemove t))) = t
verdict_value (Err refusal) = refusal_place refusal
