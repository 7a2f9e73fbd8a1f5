-- Rules 4.1: closed, inside, and the largest closed grid inside a given one, over cell functions.
use Rattle.std.specs.Prelude.{ℕ, ◌<◌}
use Rattle.theory.specs.Calculus.{Calculus, Sub}

-- the cells of a grid
abbrev pub Cells : Type 0
Cells = ℕ → ℕ → ℕ

-- each cell of G lies inside that of H
abbrev pub Within : Calculus → ℕ → Cells → Cells → Type 0
Within A n G H = (i j : ℕ) → i < n → j < n → Sub A (G i j) (H i j)

-- for all i, j, k, equal ones too, cell (i, j) lies inside the composition of cells (i, k) and (k, j)
abbrev pub Closed : Calculus → ℕ → Cells → Type 0
Closed A n G = (i j k : ℕ) → i < n → j < n → k < n → Sub A (G i j) (A.comp i k j (G i k) (G k j))

-- C is the largest closed grid inside G
pub record Closing (A : Calculus) (n : ℕ) (G C : Cells) : Type 0 where
  pub closed : Closed A n C
  pub inside : Within A n C G
  pub largest : (D : Cells) → Closed A n D → Within A n D G → Within A n D C
