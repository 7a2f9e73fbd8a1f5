-- Rules 4.3 and 7: the answer and the cells afterwards, for every input.
use Rattle.std.specs.Prelude.{◌≡◌, cond, List, ℕ, ◌*◌, eqb, replicate, Result, Ok}
use Rattle.refusal.specs.Answered.{said_of, unless_due}
use Rattle.refusal.specs.declared.Refusal.{Refusal}
use Rattle.grid.specs.Cells.{cell, some_empty, EmptyCell}
use Rattle.grid.specs.Accepted.{grid_refusal}
use Rattle.theory.specs.Allen.{allen}
use Rattle.theory.specs.Closing.{Closing}
use Rattle.theory.specs.Line.{all_pairs}
use Rattle.theory.specs.Quick.{Ended, contradiction, closed, paused, run}
use Rattle.takes.specs.declared.End.{End}
use Rattle.takes.specs.declared.End.TheVariants.{Closed, Contradiction, Paused}

-- the rule on an accepted grid: a cell that is empty at the start, or takes from the list of all pairs
unfoldable pub quick_rule : ℕ → ℕ → List ℕ → Ended
quick_rule n limit g = cond (some_empty g) (contradiction 0) (run allen n limit 0 g (all_pairs n))

-- what is said of a run's end, and the cells that it leaves: zeros after a contradiction
abbrev pub said_by : Ended → End
said_by (contradiction t) = Contradiction t
said_by (closed t g) = Closed t
said_by (paused t g) = Paused t

abbrev pub cells_by : ℕ → Ended → List ℕ
cells_by n (contradiction t) = replicate (n * n) 0
cells_by n (closed t g) = g
cells_by n (paused t g) = g

-- closed: the largest closed grid inside g, and no cell of it is empty
pub record ClosedInside (n : ℕ) (g g' : List ℕ) : Type 0 where
  pub largest : Closing allen n (cell n g) (cell n g')
  pub full : EmptyCell n g' → ⊥

-- contradiction: the largest closed grid inside g holds an empty cell, and so it is zero in all cells
pub record EmptyInside (n : ℕ) (g g' : List ℕ) : Type 0 where
  pub largest : Closing allen n (cell n g) (cell n g')
  pub empty : EmptyCell n g'
  pub zeros : g' ≡ replicate (n * n) 0

-- quick closing of the lent cells g answers r and leaves the cells g'
pub record QuickCloses (n limit : ℕ) (g : List ℕ) (r : Result End Refusal) (g' : List ℕ) : Type 0 where
  pub answer : said_of r ≡ unless_due (grid_refusal n g) (said_by (quick_rule n limit g))
  pub cells : g' ≡ cond (eqb (grid_refusal n g) 0) (cells_by n (quick_rule n limit g)) g
  pub closed : (t : ℕ) → r ≡ Ok (Closed t) → ClosedInside n g g'
  pub contradiction : (t : ℕ) → r ≡ Ok (Contradiction t) → EmptyInside n g g'
