-- The search from one cell on, and where the code stands. Inner functions cite this; the public statement does not.
use Rattle.std.specs.Prelude.{◌≡◌, true, cond, List, ℕ, ◌+◌, ◌-◌, ◌≤◌, ◌<◌, ltb, ℤ, length}
use Rattle.theory.specs.Search.{Pair, Found, past_last, pairs_from}
use Rattle.placing.specs.Settling.{settles}
use Rattle.quick.specs.Steps.{ClosedGrid}
use Rattle.search.specs.Rule.{there_at, search_at}
use Rattle.search.specs.Answers.{said_by, room_by}
use Rattle.search.specs.declared.Looked.{Looked}
use Rattle.search.specs.declared.Stand.{Stand}

-- the answer and the room are those of a search's end
pub record Shows (n allowance : ℕ) (e : Found) (room : List ℤ) (l : Looked) (room' : List ℤ) : Type 0 where
  pub answer : l ≡ said_by e
  pub room_after : room' ≡ room_by n e room
  pub within : l.tries ≤ allowance

-- past the last cell
pub record Settles (n t : ℕ) (g : List ℕ) (room : List ℤ) (l : Looked) (room' : List ℤ) : Type 0 where
  pub answer : l ≡ said_by (past_last (settles n g) t g)
  pub room_after : room' ≡ room_by n (past_last (settles n g) t g) room
  pub tries : l.tries ≡ t

-- a try: relation r is there in a cell (i, j) of a closed grid
pub record Triable (n i j r : ℕ) (g : List ℕ) : Type 0 where
  pub grid : ClosedGrid n g
  pub upper : i < j
  pub inside : j < n
  pub relation : r < 13
  pub there : there_at n (i, j) r g ≡ true

-- cell (i, j), or past the last, with so many cells left
pub record AtCell (n i j left : ℕ) : Type 0 where
  pub few : n ≤ 32
  pub upper : i < j
  pub count : length (pairs_from n i j) ≡ left
  pub more : 0 < left → j < n

-- the cell after (i, j), in row order
abbrev pub after : ℕ → ℕ → ℕ → Pair
after n i j = cond (ltb (j + 1) n) (i, j + 1) (i + 1, i + 2)

-- the code stands at a cell, or past the last
pub record Stands (n allowance : ℕ) (s : Stand) : Type 0 where
  pub at : AtCell n s.i s.j s.left
  pub within : s.tries ≤ allowance

-- what the search comes to from a stand on
abbrev pub goes_on : ℕ → ℕ → List ℕ → Stand → Found
goes_on n allowance g s = search_at n allowance (pairs_from n s.i s.j) g s.tries

-- one cell further, with t tries made
pub record Steps (n : ℕ) (at : Stand) (t : ℕ) (s : Stand) : Type 0 where
  pub i : s.i ≡ (after n at.i at.j).0
  pub j : s.j ≡ (after n at.i at.j).1
  pub left : s.left ≡ at.left - 1
  pub tries : s.tries ≡ t

-- no further back, and what the search comes to is the same
pub record Passes (n allowance : ℕ) (g : List ℕ) (from s : Stand) : Type 0 where
  pub stands : Stands n allowance s
  pub fewer : s.left ≤ from.left
  pub same : goes_on n allowance g s ≡ goes_on n allowance g from
