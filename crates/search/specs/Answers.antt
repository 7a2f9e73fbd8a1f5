-- Rules 5.2 and 7: the answer and the room afterwards, for every input.
use Rattle.std.specs.Prelude.{◌≡◌, cond, List, ℕ, ◌*◌, eqb, ℤ, length, Result, Ok, Err}
use Rattle.refusal.specs.Answered.{said_of, unless_due, first_of}
use Rattle.refusal.specs.declared.Refusal.{Refusal}
use Rattle.relation.specs.Meaning.{Event, Holds}
use Rattle.grid.specs.Accepted.{cell_refusal}
use Rattle.grid.specs.Meets.{Meets}
use Rattle.theory.specs.Search.{Pair, Found, placed, none, gave_up, pairs_from, NoLater}
use Rattle.placing.specs.Placing.{Places, MeetsAt, NoGaps}
use Rattle.placing.specs.Checking.{length_refusal}
use Rattle.placing.specs.Settling.{placing_of}
use Rattle.search.specs.Rule.{search_of}
use Rattle.search.specs.declared.Outcome.{Outcome}
use Rattle.search.specs.declared.Outcome.TheVariants.{Placed, None, GaveUp}
use Rattle.search.specs.declared.Looked.{Looked}

-- an outcome with so many tries
abbrev pub looked : Outcome → ℕ → Looked
looked o t = record { outcome = o; tries = t }

-- 1, 2, 6, then 3, 4, 5; 0 is none
unfoldable pub search_refusal : ℕ → List ℕ → ℕ → ℕ
search_refusal n g m = first_of (length_refusal n g m) (cell_refusal n g)

-- what is said of a search's end, and the room that it leaves: the one placing without gaps, or as found
abbrev pub said_by : Found → Looked
said_by (placed t h) = looked Placed t
said_by (none t) = looked None t
said_by (gave_up t) = looked GaveUp t

abbrev pub room_by : ℕ → Found → List ℤ → List ℤ
room_by n (placed t h) room = placing_of n h
room_by n (none t) room = room
room_by n (gave_up t) room = room

-- ---- the meaning

-- σ gives the relation of each pair in the placing P
abbrev pub ScenarioOf : (ℕ → Event) → (Pair → ℕ) → Type 0
ScenarioOf P σ = (p : Pair) → Holds (σ p) (P p.0) (P p.1)

-- the numbers are a placing without gaps that meets every cell of the given grid, and its scenario is the first that any placing meets
pub record FirstPlacing (n : ℕ) (g : List ℕ) (xs : List ℤ) : Type 0 where
  pub long : length xs ≡ 2 * n
  pub meets : MeetsAt n g xs
  pub no_gaps : NoGaps xs
  pub first : (P Q : ℕ → Event) (σ τ : Pair → ℕ) → Places n xs P → ScenarioOf P σ → Meets n g Q → ScenarioOf Q τ → NoLater (pairs_from n 0 1) σ τ

-- what an outcome means for the given grid, with the tries made and the room afterwards
abbrev pub MeantBy : ℕ → ℕ → List ℕ → List ℤ → Outcome → ℕ → Type 0
MeantBy n allowance g xs Placed t = FirstPlacing n g xs
MeantBy n allowance g xs None t = (P : ℕ → Event) → Meets n g P → ⊥
MeantBy n allowance g xs GaveUp t = t ≡ allowance

abbrev pub Meant : ℕ → ℕ → List ℕ → List ℤ → Result Looked Refusal → Type 0
Meant n allowance g xs (Ok l) = MeantBy n allowance g xs l.outcome l.tries
Meant n allowance g xs (Err r) = Unit {0}

-- looking for a placing of the grid g with the lent room answers a and leaves the room room'
pub record Looks (n allowance : ℕ) (g : List ℕ) (room : List ℤ) (a : Result Looked Refusal) (room' : List ℤ) : Type 0 where
  pub answer : said_of a ≡ unless_due (search_refusal n g (length room)) (said_by (search_of n allowance g))
  pub room_after : room' ≡ cond (eqb (search_refusal n g (length room)) 0) (room_by n (search_of n allowance g) room) room
  pub means : Meant n allowance g room' a
