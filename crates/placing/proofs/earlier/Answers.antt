-- Each of the four sets is the one of its two sides.
use Rattle.placing.specs.Settling.{earlier}
use borrow.Author.Rules.{rules}
use Rattle.placing.proofs.earlier.Goals as goal

pub returns : goal.returns
unfolding earlier
returns c = search rules
