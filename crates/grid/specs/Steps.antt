-- What inner functions on grids say. The public statements do not cite this.
use Rattle.std.specs.Prelude.{Bool, ◌&&◌, List, ℕ, ltb}
use Rattle.relation.specs.Sets.{some}
use Rattle.grid.specs.Accepted.{unlike}

-- after i, some j has a cell (j, i) that is not the converse of cell (i, j)
abbrev pub above_unlike : ℕ → List ℕ → ℕ → Bool
above_unlike n g i = some n (λ j. ltb i j && unlike n g i j)
