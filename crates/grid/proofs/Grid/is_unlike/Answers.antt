-- All relations, turned round, are all relations; any other set is turned round.
use Rattle.grid.proofs.UnlikeLaws.{unlike-all}
use Rattle.grid.proofs.Grid.is_unlike.Goals as goal

pub returns-then-set-eq-ALL : goal.returns-then-set-eq-ALL
returns-then-set-eq-ALL c = unlike-all _ _ _ _ _ _ c.get-set.ensures c.get-mirror.ensures c.if-set-eq-ALL.true
