-- An even cut is the first at its event, an odd one the second.
use borrow.Author.Tests.{eq-eqb, ne_eqb}
use Rattle.takes.proofs.from_of.Goals as goal

pub returns-then-c-eq0 : goal.returns-then-c-eq0
returns-then-c-eq0 c = simp (eq-eqb _ 0 c.if-c-eq0.true)

pub returns-else-c-eq0 : goal.returns-else-c-eq0
returns-else-c-eq0 c = simp (ne_eqb _ 0 c.if-c-eq0.false)
