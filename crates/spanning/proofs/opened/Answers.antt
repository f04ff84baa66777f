use borrow.Author.Tests.{eq-eqb, ne_eqb}
use Rattle.spanning.proofs.opened.Goals as goal

pub returns-then-since-eq0 : goal.returns-then-since-eq0
returns-then-since-eq0 c = rw (eq-eqb _ _ c.if-since-eq0.true)

pub returns : goal.returns
returns c = rw (ne_eqb _ _ c.if-since-eq0.false)
