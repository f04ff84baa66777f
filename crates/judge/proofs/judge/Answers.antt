-- The refusals are the check's; past them the pass tells the verdict.
use mathlib.Core.Path.{sym, ap, ◌∙◌}
use Rattle.std.specs.Prelude.{Ok, Err}
use Rattle.formula.specs.Verdict.{verdict}
use Rattle.strip.specs.History.{history_of}
use Rattle.strip.proofs.Places.{good_rising, good_upto}
use Rattle.standing.specs.declared.Seen.{Seen}
use Rattle.standing.specs.Scan.{told_by}
use Rattle.judge.proofs.Checked.{checks, check_accepts, judges}
use Rattle.standing.proofs.Tells.{scan_tells}
use Rattle.judge.proofs.judge.Goals as goal

pub scan-seen-requires : goal.scan-seen-requires
scan-seen-requires c =
    let x = check_accepts _ _ _ (sym c.check.ensures ∙ c.in_ok-check.was) in
    (good_rising _ _ _ x.good_m, good_rising _ _ _ x.good_s, x.short_m, x.short_s)

pub returns : goal.returns
returns c =
    let x = check_accepts _ _ _ (sym c.check.ensures ∙ c.in_ok-check.was) in
    judges _ _ _ _
    (ap Ok (c.told.ensures
    ∙ ap (λ (y : Seen). told_by y.standing) (c.scan-seen.ensures c.args.now (good_upto _ _ _ x.good_m) (good_upto _ _ _ x.good_s))
    ∙ scan_tells (history_of c.args.m.now) (history_of c.args.s.now) c.args.now)
    ∙ sym (checks c.args.m.now c.args.s.now c.args.now Err (Ok (verdict (history_of c.args.m.now) (history_of c.args.s.now) c.args.now)) x))
