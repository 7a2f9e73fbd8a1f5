-- How the code's answer, grid and waiting list show a step of quick closing. Inner functions cite this; the public statements do not.
use Rattle.std.specs.Prelude.{◌≡◌, List, ℕ, ◌*◌, ◌/◌, ◌≤◌, ◌<◌, Option, None, Some, Result, Ok, Err}
use Rattle.grid.specs.Cells.{cell}
use Rattle.grid.specs.declared.Emptied.{Emptied}
use Rattle.theory.specs.Allen.{allen}
use Rattle.theory.specs.Quick.{Out, dead, going, cut_to, Ended, contradiction, closed, paused}
use Rattle.theory.specs.Cuts.{from_of, via_of, to_of, cut_at, cuts_from}
use Rattle.takes.specs.declared.Found.{Found}
use Rattle.takes.specs.declared.Take.{Take}
use Rattle.takes.specs.declared.End.{End}
use Rattle.takes.specs.declared.End.TheVariants.{Contradiction, Closed, Paused}

-- a step that found an empty cell, or what it left
abbrev pub stepped : Result (Unit {0}) Emptied → List ℕ → List ℕ → Out
stepped (Ok x) g q = going g q
stepped (Err e) g q = dead

-- the take is of two of n events, and has the rows of their cell and of its mirror
pub record Sees (n : ℕ) (g : List ℕ) (t : Take) : Type 0 where
  pub from : t.i < n
  pub to : t.j < n
  pub apart : t.i ≡ t.j → ⊥
  pub there : t.there.set ≡ cell n g t.i t.j
  pub back : t.back.set ≡ cell n g t.j t.i

-- cut c in the take of (i, j) changes nothing, whatever waits
abbrev pub Quiet : ℕ → ℕ → ℕ → List ℕ → ℕ → Type 0
Quiet n i j g c = (q : List ℕ) → cut_at allen n i j c g q ≡ going g q

-- cut c changes its cell, where it is made: it leaves this set
pub record Changes (n i j : ℕ) (g : List ℕ) (c set : ℕ) : Type 0 where
  pub left : (c / 2 ≡ i → ⊥) → set ≡ cut_to allen (cell n g) (from_of i c) (via_of i j c) (to_of j c)
  pub less : (c / 2 ≡ i → ⊥) → set ≡ cell n g (from_of i c) (to_of j c) → ⊥

-- the cuts from c on come to those from r on, whatever waits
pub record Passes (n i j : ℕ) (g : List ℕ) (c r : ℕ) : Type 0 where
  pub from : c ≤ r
  pub within : r ≤ n * 2
  pub same : (q : List ℕ) → cuts_from allen n i j c g q ≡ cuts_from allen n i j r g q

-- cut r is the first from c on that changes something
pub record First (n i j : ℕ) (g : List ℕ) (c r set : ℕ) : Type 0 where
  pub passes : Passes n i j g c r
  pub before : r < n * 2
  pub changes : Changes n i j g r set

-- the first cut from c on that changes something, or none does
abbrev pub Finds : ℕ → ℕ → ℕ → List ℕ → ℕ → Option Found → Type 0
Finds n i j g c None = Passes n i j g c (n * 2)
Finds n i j g c (Some f) = First n i j g c f.at f.set

-- how a run ended, with its grid
abbrev pub ended : End → List ℕ → Ended
ended (Contradiction t) g = contradiction t
ended (Closed t) g = closed t g
ended (Paused t) g = paused t g
