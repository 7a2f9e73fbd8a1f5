-- The routes that a part of a sweep goes over, and what it comes to. Inner functions cite this; the public statement does not.
use Rattle.std.specs.Prelude.{◌≡◌, ◌⊎◌, Bool, true, false, List, ℕ, ◌*◌, ◌≤◌, ◌<◌, replicate, Option, Some, None, Result, Ok, Err}
use Rattle.std.specs.Int.Count.{ones}
use Rattle.grid.specs.Cells.{cell, some_empty}
use Rattle.grid.specs.declared.Emptied.{Emptied}
use Rattle.theory.specs.Allen.{allen}
use Rattle.theory.specs.Quick.{cut_to}
use Rattle.theory.specs.Sweeps.{Distinct, Cuts, DeadEnd, Progress}
use Rattle.plain.specs.declared.End.{End}
use Rattle.plain.specs.declared.End.TheVariants.{Closed, Contradiction}

-- over m to b, from events below k
abbrev pub OverTo : ℕ → ℕ → ℕ → ℕ → ℕ → ℕ → ℕ → Type 0
OverTo n m b k x y z = (x < k) × (y ≡ m) × (z ≡ b) × Distinct n x z y

-- to b, over events below k, from events before b
abbrev pub EventTo : ℕ → ℕ → ℕ → ℕ → ℕ → ℕ → Type 0
EventTo n b k x y z = (x < z) × (y < k) × (z ≡ b) × Distinct n x z y

-- to events below k, from events before them
abbrev pub AllTo : ℕ → ℕ → ℕ → ℕ → ℕ → Type 0
AllTo n k x y z = (x < z) × (z < k) × Distinct n x z y

-- the route from a over m to b leaves its cell as it is
abbrev pub Still : ℕ → ℕ → ℕ → List ℕ → ℕ → Type 0
Still n m b g a = cut_to allen (cell n g) a m b ≡ cell n g a b

-- so does each from an event from k on and below r
pub record StillUntil (n m b : ℕ) (g : List ℕ) (k r : ℕ) : Type 0 where
  pub from : k ≤ r
  pub within : r ≤ b
  pub each : (a : ℕ) → k ≤ a → a < r → Still n m b g a

-- the route from a over m to b changes its cell: it leaves this set
pub record Changes (n m b : ℕ) (g : List ℕ) (a set : ℕ) : Type 0 where
  pub left : set ≡ cut_to allen (cell n g) a m b
  pub less : set ≡ cell n g a b → ⊥

-- the route from a is the first from k on that changes its cell; or none up to b does
abbrev pub Finds : ℕ → ℕ → ℕ → List ℕ → ℕ → Option (ℕ × ℕ) → Type 0
Finds n m b g k (Some f) = StillUntil n m b g k f.0 × (f.0 < b) × Changes n m b g f.0 f.1
Finds n m b g k None = StillUntil n m b g k b

-- the cuts over m to b, from a route on that changes its cell
abbrev pub CutsFrom : ℕ → ℕ → ℕ → List ℕ → Result (Unit {0}) Emptied → List ℕ → Type 0
CutsFrom n m b g (Err e) g' = DeadEnd allen n g
CutsFrom n m b g (Ok u) g' = Progress allen ones n (OverTo n m b b) g g' true

-- a part of a sweep over the routes S
abbrev pub Pass : ℕ → (ℕ → ℕ → ℕ → Type 0) → List ℕ → Result Bool Emptied → List ℕ → Type 0
Pass n S g (Err e) g' = DeadEnd allen n g
Pass n S g (Ok c) g' = Progress allen ones n S g g' c

-- a cell is empty, or cuts lead to a route that leaves nothing
abbrev pub Empties : ℕ → List ℕ → Type 0
Empties n g = (some_empty g ≡ true) ⊎ DeadEnd allen n g

-- no cell is empty, and cuts lead to a grid that no route changes
abbrev pub ComesToRest : ℕ → List ℕ → List ℕ → Type 0
ComesToRest n g g' =
    (some_empty g ≡ false) × Cuts allen n g g' × ((a m b : ℕ) → a < b → Distinct n a b m → cut_to allen (cell n g') a m b ≡ cell n g' a b)

-- the sweeps of an accepted grid, until one changes nothing
abbrev pub Rests : ℕ → List ℕ → Result (Unit {0}) Emptied → List ℕ → Type 0
Rests n g (Err e) g' = Empties n g
Rests n g (Ok u) g' = ComesToRest n g g'

-- how the sweeps of an accepted grid end
abbrev pub Sweeps : ℕ → List ℕ → End → List ℕ → Type 0
Sweeps n g Contradiction g' = Empties n g × (g' ≡ replicate (n * n) 0)
Sweeps n g Closed g' = ComesToRest n g g'
