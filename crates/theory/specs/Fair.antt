-- A grid in the midst of closing, over any calculus. Inner functions cite this; the public statements do not.
use Rattle.std.specs.Prelude.{◌≡◌, List, ℕ, ◌*◌, ◌≤◌, ◌<◌, length}
use Rattle.grid.specs.Cells.{cell}
use Rattle.theory.specs.Calculus.{Calculus, Sub}

-- it is as an accepted grid is
pub record Fine (A : Calculus) (n : ℕ) (g : List ℕ) : Type 0 where
  pub few : n ≤ 32
  pub fits : n * n ≤ length g
  pub mirrored : (i j : ℕ) → i < n → j < n → cell n g j i ≡ A.conv (cell n g i j)
  pub diagonal : (i : ℕ) → i < n → cell n g i i ≡ A.eq
  pub topped : (i j : ℕ) → i < n → j < n → Sub A (cell n g i j) (A.top i j)

-- no cell is empty
abbrev pub Full : ℕ → List ℕ → Type 0
Full n g = (i j : ℕ) → i < n → j < n → cell n g i j ≡ 0 → ⊥

pub record Fair (A : Calculus) (n : ℕ) (g : List ℕ) : Type 0 where
  pub fine : Fine A n g
  pub full : Full n g
