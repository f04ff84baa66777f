use mathlib.Core.Path.{refl}
use borrow.Author.Tests.{eq-eqb, ne_eqb}
use Rattle.spanning.proofs.end.Goals as goal

pub returns-then-was-eq0 : goal.returns-then-was-eq0
returns-then-was-eq0 c = simp (eq-eqb _ _ c.if-was-eq0.true) (refl, refl)

pub returns : goal.returns
returns c = simp (ne_eqb _ _ c.if-was-eq0.false) (refl, c.write.ensures)
