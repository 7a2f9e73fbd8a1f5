use mathlib.Core.Path.{◌≡◌}
use mathlib.Core.Bool.{Bool}
use mathlib.Core.List.{List}
use Prim.Native.Nat.{ℕ}
use lib.Dec.{eqb}
use lib.ListN.{get_or}
use Rattle.relation.specs.Sets.{some}
use Rattle.grid.proofs.some_empty.Given as goal

abbrev pub empty : List ℕ → ℕ → Bool
empty g k = eqb (get_or g k 0) 0

abbrev pub invariant-loop-cell : goal.invariant-loop-cell
invariant-loop-cell l = l.found ≡ some l.cell-index (empty l.g)
