-- The digit of a mark, after a shift.
use Rattle.relation.specs.Sets.{member}
use borrow.Author.Rules.{rules}
use Rattle.relation.proofs.has.Goals as goal

pub returns : goal.returns
unfolding member
returns c = search rules
