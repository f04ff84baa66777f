-- One history on which judges that tell a strict cause wrongly give themselves away: demand 2 lets none of them through, and demand 1 none that does so from
-- C alone. Assumes nothing.
use mathlib.Core.Path.{◌≡◌, refl, sym, ap, ◌∙◌}
use mathlib.Core.Bool.{false}
use mathlib.Core.List.{List, [], ◌∷◌}
use Prim.Native.Nat.{ℕ, ◌+◌, ◌*◌, ◌^◌}
use native.Mathlib.Omega.{arith}
use lib.Dec.{eqb}
use borrow.Author.Tests.{eqb-false}
use Rattle.base.specs.First.{first}
use Rattle.rules.specs.Kinds.{SJ, LJ, SL, SA, LA, SR}
use Rattle.event.specs.Word.{word_of}
use Rattle.formula.specs.Since.{since}
use Rattle.formula.specs.Ticks.{inside, liberal, by_add, by_join, grant}
use Rattle.formula.specs.Verdict.{latest, earliest, granted_at, denied, verdict}
use Rattle.formula.proofs.Judged.{judged_is}
use Rattle.strip.specs.Good.{tick_before, good_place, first_bad}
use Rattle.strip.specs.History.{history_of}
use Rattle.strip.specs.declared.Side.TheVariants.{Model, Sheet}
use Rattle.strip.proofs.Bad.{all_good}
use Rattle.judge.specs.Judge.{StripsAccepted}
use Rattle.loader.specs.Judge.{packed}
use Rattle.wire.specs.Word.{le32, bytes32}
use Rattle.wire.specs.Words.{words, bytes}
use Rattle.group.specs.declared.Group.{Group}
use Rattle.demands.specs.Gate.{Gate}
use Rattle.demands.specs.Judgement.{packed_judgement}
use Rattle.demands.specs.One.{DemandOne}
use Rattle.demands.specs.Two.{DemandTwo}
use Rattle.demands.specs.Ours.{ours}
use Rattle.demands.proofs.One.{demand_one}
use Rattle.wrong.specs.Gates.{undated, undated_in_c, moment_dated, held_dated, early_dated, latest_strict, late_dated, misnaming}

-- the rules' example (RULES.md 6.1): a strict leave before any moment, at 2; a grant from 4 that ended at 5, and one from 6 that leave and remove ended
-- together at 8; another strict remove at 11
abbrev model : List ℕ
model = word_of 1 SJ 0 ∷ word_of 2 SL 0 ∷ word_of 3 SJ 0 ∷ word_of 5 SL 0 ∷ word_of 6 LJ 0 ∷ word_of 8 SL 0 ∷ []

abbrev sheet : List ℕ
sheet = word_of 4 LA 0 ∷ word_of 8 SR 0 ∷ word_of 9 SA 0 ∷ word_of 11 SR 0 ∷ []

abbrev now : ℕ
now = 12

accepted : StripsAccepted model sheet now
unfolding first_bad good_place tick_before first
accepted = record {
  tick = omega arith;
  short_m = omega arith;
  short_s = omega arith;
  good_m = all_good Model now model (omega arith);
  good_s = all_good Sheet now sheet (omega arith);
}

-- the strict leave of tick 8, and nothing else
ended_by_leave : (G : Gate Group) → DemandTwo G → packed_judgement (G.judge model sheet now) ≡ (104 * 2 ^ 32 + 8)
unfolding first since inside liberal by_add by_join grant latest earliest granted_at denied verdict history_of
ended_by_leave G d =
    let x = (d.judge model sheet now accepted).1 in
    ap packed_judgement x.1 ∙ ap packed (judged_is (history_of model) (history_of sheet) now x.2)

says_other : (G : Gate Group) (n : ℕ) → packed_judgement (G.judge model sheet now) ≡ n → eqb n (104 * 2 ^ 32 + 8) ≡ false → DemandTwo G → ⊥
says_other G n e f d = eqb-false n (104 * 2 ^ 32 + 8) f (sym e ∙ ended_by_leave G d)

-- what each wrong judge says instead
pub undates : DemandTwo undated → ⊥
unfolding first since inside liberal by_add by_join grant latest earliest granted_at denied verdict tick_before good_place first_bad history_of
undates = says_other undated (104 * 2 ^ 32 + 0) refl refl

pub dates_by_moment : DemandTwo moment_dated → ⊥
unfolding first since inside liberal by_add by_join grant latest earliest granted_at denied verdict tick_before good_place first_bad history_of
dates_by_moment = says_other moment_dated (104 * 2 ^ 32 + 6) refl refl

pub dates_by_hold : DemandTwo held_dated → ⊥
unfolding first since inside liberal by_add by_join grant latest earliest granted_at denied verdict tick_before good_place first_bad history_of
dates_by_hold = says_other held_dated (104 * 2 ^ 32 + 7) refl refl

pub dates_early : DemandTwo early_dated → ⊥
unfolding first since inside liberal by_add by_join grant latest earliest granted_at denied verdict tick_before good_place first_bad history_of
dates_early = says_other early_dated (104 * 2 ^ 32 + 2) refl refl

pub dates_late : DemandTwo late_dated → ⊥
unfolding first since inside liberal by_add by_join grant latest earliest granted_at denied verdict tick_before good_place first_bad history_of latest_strict
dates_late = says_other late_dated (104 * 2 ^ 32 + 11) refl refl

pub misnames : DemandTwo misnaming → ⊥
unfolding first since inside liberal by_add by_join grant latest earliest granted_at denied verdict tick_before good_place first_bad history_of
misnames = says_other misnaming (105 * 2 ^ 32 + 8) refl refl

-- from C: demand 1 gives the number by the judge's verdict, which is ours
undates_for : (n k : ℕ) → undated_in_c.judge_bytes (bytes model) (bytes sheet) now ≡ n → ours.judge_bytes (bytes model) (bytes sheet) now ≡ k → eqb n k ≡ false
    → DemandOne undated_in_c → ⊥
undates_for n k e f differ d = eqb-false n k differ (sym e ∙ d.judge_of_bytes (bytes model) (bytes sheet) now ∙ sym (demand_one.judge_of_bytes (bytes model) (bytes sheet) now) ∙ f)

pub undates_in_c : DemandOne undated_in_c → ⊥
unfolding bytes bytes32 words le32 first since inside liberal by_add by_join grant latest earliest granted_at denied verdict tick_before good_place first_bad history_of
undates_in_c = undates_for (104 * 2 ^ 32 + 0) (104 * 2 ^ 32 + 8) refl refl refl
