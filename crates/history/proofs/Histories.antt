-- The judge says of each of the thirteen histories what the table says. Assumes nothing.
use mathlib.Core.Path.{◌≡◌, refl}
use mathlib.Core.List.{map}
use Rattle.base.specs.First.{first}
use Rattle.formula.specs.Since.{since}
use Rattle.formula.specs.Ticks.{inside, liberal, by_add, by_join, grant}
use Rattle.formula.specs.Verdict.{latest, earliest, granted_at, denied, verdict}
use Rattle.strip.specs.Good.{tick_before, good_place, first_bad}
use Rattle.strip.specs.History.{history_of}
use Rattle.history.specs.Histories.{Row, histories, asked}

pub histories_judged : map asked histories ≡ map (λ (r : Row). r.says) histories
unfolding histories first since inside liberal by_add by_join grant latest earliest granted_at denied verdict tick_before good_place first_bad history_of
histories_judged = refl
