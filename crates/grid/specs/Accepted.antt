-- Rules 3.2 and 7: when a grid is accepted, and the refusals 1 to 5.
use Rattle.std.specs.Prelude.{◌≡◌, Bool, not, cond, List, ℕ, ◌*◌, ◌≤◌, ◌<◌, eqb, ltb, length, get_or}
use Rattle.refusal.specs.Answered.{first_of}
use Rattle.relation.specs.Sets.{some}
use Rattle.relation.specs.Composition.{converse}
use Rattle.grid.specs.Cells.{cell}

pub record Accepted (n : ℕ) (g : List ℕ) : Type 0 where
  pub few : n ≤ 32
  pub long : length g ≡ n * n
  pub small : (i j : ℕ) → i < n → j < n → cell n g i j ≤ 8191
  pub diagonal : (i : ℕ) → i < n → cell n g i i ≡ 4096
  pub mirrored : (i j : ℕ) → i < n → j < n → cell n g j i ≡ converse (cell n g i j)

-- 1, then 2; 0 is none
unfoldable pub size_refusal : ℕ → List ℕ → ℕ
size_refusal n g = cond (ltb 32 n) 1 (cond (eqb (length g) (n * n)) 0 2)

-- a cell above 8191; a diagonal cell that is not {eq}; a cell whose mirror is not its converse
abbrev pub some_large : List ℕ → Bool
some_large g = some (length g) (λ p. ltb 8191 (get_or g p 0))

abbrev pub not_eq : ℕ → List ℕ → ℕ → Bool
not_eq n g i = not (eqb (cell n g i i) 4096)

abbrev pub some_not_eq : ℕ → List ℕ → Bool
some_not_eq n g = some n (not_eq n g)

abbrev pub unlike : ℕ → List ℕ → ℕ → ℕ → Bool
unlike n g i j = not (eqb (cell n g j i) (converse (cell n g i j)))

abbrev pub row_unlike : ℕ → List ℕ → ℕ → Bool
row_unlike n g i = some n (unlike n g i)

abbrev pub some_unlike : ℕ → List ℕ → Bool
some_unlike n g = some n (row_unlike n g)

-- 3, then 4, then 5, each looked for over everything before the next; 0 is none
unfoldable pub cell_refusal : ℕ → List ℕ → ℕ
cell_refusal n g = cond (some_large g) 3 (cond (some_not_eq n g) 4 (cond (some_unlike n g) 5 0))

-- the first refusal of a grid; 0 is none
abbrev pub grid_refusal : ℕ → List ℕ → ℕ
grid_refusal n g = first_of (size_refusal n g) (cell_refusal n g)
