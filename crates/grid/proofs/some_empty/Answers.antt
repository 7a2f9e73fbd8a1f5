-- Whether one of the cells passed so far is empty.
use mathlib.Core.Path.{refl, ap, ◌∙◌}
use mathlib.Core.Bool.{Bool, ◌||◌}
use Rattle.relation.specs.Sets.{some}
use Rattle.relation.proofs.Tested.{some_next}
use Rattle.grid.proofs.some_empty.Invariants.{empty}
use Rattle.grid.proofs.some_empty.Goals as goal

pub loop-cell-init : goal.loop-cell-init
unfolding some
loop-cell-init c = refl

pub loop-cell-preserved : goal.loop-cell-preserved
loop-cell-preserved c = ap (λ (x : Bool). x || empty c.args.g.now c.loop-cell.cell-index) c.loop-cell.invariant ∙ some_next c.loop-cell.cell-index (empty c.args.g.now)
