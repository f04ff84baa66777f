use borrow.Author.Tests.{lt-ltb, le-ltb}
use Rattle.spanning.proofs.write.Goals as goal

pub returns-then-place-list : goal.returns-then-place-list
returns-then-place-list c = simp (lt-ltb _ _ c.if-place-list.true)

pub returns-else-place-list : goal.returns-else-place-list
returns-else-place-list c = simp (le-ltb _ _ c.if-place-list.false)
