-- Rules 4.2 and 7: the answer and the cells afterwards, for every input.
use Rattle.std.specs.Prelude.{◌≡◌, List, ℕ, ◌*◌, ◌<◌, length, replicate, Result, Ok}
use Rattle.refusal.specs.Answered.{refusal_of}
use Rattle.refusal.specs.declared.Refusal.{Refusal}
use Rattle.grid.specs.Cells.{cell, EmptyCell}
use Rattle.grid.specs.Accepted.{grid_refusal}
use Rattle.theory.specs.Allen.{allen}
use Rattle.theory.specs.Closing.{Closing}
use Rattle.plain.specs.declared.End.{End}
use Rattle.plain.specs.declared.End.TheVariants.{Closed, Contradiction}

-- plain closing of the lent cells g answers r and leaves the cells g'
pub record PlainCloses (n : ℕ) (g : List ℕ) (r : Result End Refusal) (g' : List ℕ) : Type 0 where
  pub refusal : refusal_of r ≡ grid_refusal n g
  pub kept : 0 < grid_refusal n g → g' ≡ g
  pub long : length g' ≡ length g
  pub largest : grid_refusal n g ≡ 0 → Closing allen n (cell n g) (cell n g')
  pub closed : r ≡ Ok Closed → EmptyCell n g' → ⊥
  pub contradiction : r ≡ Ok Contradiction → EmptyCell n g' × (g' ≡ replicate (n * n) 0)
