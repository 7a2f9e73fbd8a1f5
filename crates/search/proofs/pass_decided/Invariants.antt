use Rattle.search.specs.Steps.{Passes}
use Rattle.search.proofs.pass_decided.Given as goal

abbrev pub invariant-loop-at : goal.invariant-loop-at
invariant-loop-at l = Passes l.grid.n l.allowance l.grid.cells.now l.initial.at l.at

abbrev pub decreases-loop-at : goal.decreases-loop-at
decreases-loop-at l = l.at.left
