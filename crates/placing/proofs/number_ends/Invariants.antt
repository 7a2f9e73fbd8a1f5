use mathlib.Core.Path.{◌≡◌}
use lib.ListN.{length}
use Rattle.placing.specs.Settling.{gapless_end}
use Rattle.placing.specs.Steps.{most_ends}
use Rattle.placing.proofs.EntryLaws.{Holds}
use Rattle.placing.proofs.number_ends.Given as goal

abbrev pub invariant-loop-p : goal.invariant-loop-p
invariant-loop-p l = (length l.numbers ≡ most_ends) × Holds (gapless_end l.grid.n l.grid.cells.now) l.numbers l.p
