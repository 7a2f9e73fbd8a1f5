-- Quick closing of an accepted grid, and closing again after a cut. Inner functions cite this; the public statement does not.
use Rattle.std.specs.Prelude.{◌≡◌, List, ℕ, ◌<◌}
use Rattle.grid.specs.Cells.{cell}
use Rattle.grid.specs.Accepted.{Accepted}
use Rattle.theory.specs.Allen.{allen}
use Rattle.theory.specs.Calculus.{Sub}
use Rattle.theory.specs.Closing.{Closed}
use Rattle.theory.specs.Fair.{Full}
use Rattle.theory.specs.Quick.{Ended}
use Rattle.takes.specs.declared.End.{End}
use Rattle.quick.specs.Answers.{said_by, cells_by}

-- the answer and the cells are those of a run's end
pub record Shows (n : ℕ) (e : Ended) (r : End) (g : List ℕ) : Type 0 where
  pub answer : r ≡ said_by e
  pub cells : g ≡ cells_by n e

-- a closed grid: accepted, and with no empty cell
pub record ClosedGrid (n : ℕ) (g : List ℕ) : Type 0 where
  pub accepted : Accepted n g
  pub full : Full n g
  pub closed : Closed allen n (cell n g)

-- its cell (i, j), off the diagonal, can be cut to this set
pub record Cuttable (n i j set : ℕ) (g : List ℕ) : Type 0 where
  pub grid : ClosedGrid n g
  pub from : i < n
  pub to : j < n
  pub apart : i ≡ j → ⊥
  pub inside : Sub allen set (cell n g i j)
  pub some : set ≡ 0 → ⊥
