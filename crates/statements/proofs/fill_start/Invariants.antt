use Rattle.statements.proofs.GridLaws.{Filled}
use Rattle.statements.proofs.fill_start.Given as goal

abbrev pub invariant-loop-i : goal.invariant-loop-i
invariant-loop-i l = Filled l.n l.i l.g
