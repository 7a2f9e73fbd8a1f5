-- Rules 3.2: when a placing meets a grid.
use Rattle.std.specs.Prelude.{List, ℕ, ◌<◌, T}
use Rattle.relation.specs.Meaning.{Event, Holds}
use Rattle.relation.specs.Sets.{member}
use Rattle.grid.specs.Cells.{cell}

-- a placing, of whole numbers of any size, meets every cell of a grid
pub record Meets (n : ℕ) (g : List ℕ) (P : ℕ → Event) : Type 0 where
  pub each : (i j : ℕ) → i < n → j < n → (r : ℕ) × (r < 13) × T (member r (cell n g i j)) × Holds r (P i) (P j)
