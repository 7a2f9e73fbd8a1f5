use Prim.Native.Nat.{◌*◌}
use mathlib.Core.Path.{◌≡◌}
use lib.ListN.{length}
use Rattle.placing.proofs.FillLaws.{Filled}
use Rattle.placing.specs.Settling.{ends_before}
use Rattle.placing.proofs.count_ends.Given as goal

abbrev pub invariant-loop-p : goal.invariant-loop-p
invariant-loop-p l = (length l.count-items ≡ 2 * l.grid.n) × Filled (ends_before l.grid.n l.grid.cells.now) l.count-items l.p
