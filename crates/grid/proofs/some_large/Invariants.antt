use mathlib.Core.Path.{◌≡◌}
use mathlib.Core.Bool.{Bool}
use mathlib.Core.List.{List}
use Prim.Native.Nat.{ℕ}
use lib.Dec.{ltb}
use lib.ListN.{get_or}
use Rattle.relation.specs.Sets.{some}
use Rattle.grid.proofs.some_large.Given as goal

abbrev pub large : List ℕ → ℕ → Bool
large g k = ltb 8191 (get_or g k 0)

abbrev pub invariant-loop-cell : goal.invariant-loop-cell
invariant-loop-cell l = l.found ≡ some l.cell-index (large l.g)
