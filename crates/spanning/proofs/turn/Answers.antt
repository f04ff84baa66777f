use mathlib.Core.Path.{refl}
use Rattle.spanning.proofs.turn.Goals as goal

pub returns-then-holds : goal.returns-then-holds
returns-then-holds c = simp (c.if-holds.true, c.opened.ensures) (refl, refl)

pub returns : goal.returns
returns c = simp c.if-holds.false c.end.ensures
