-- Rules 1 and 5.2: numbers that give a placing, and when they have no gaps.
use Rattle.std.specs.Prelude.{◌≡◌, List, ℕ, ◌+◌, ◌*◌, ◌<◌, length, get_or, ℤ, pos, negsuc, ◌≤ℤ◌}
use Rattle.relation.specs.Meaning.{Event}
use Rattle.grid.specs.Meets.{Meets}

-- number p of a list
abbrev pub at : List ℤ → ℕ → ℤ
at xs p = get_or xs p (pos 0)

-- a list gives a placing: start then end, event by event
pub record Places (n : ℕ) (xs : List ℤ) (P : ℕ → Event) : Type 0 where
  pub starts : (i : ℕ) → i < n → (P i).start ≡ at xs (2 * i)
  pub ends : (i : ℕ) → i < n → (P i).end ≡ at xs (2 * i + 1)

pub record MeetsAt (n : ℕ) (g : List ℕ) (xs : List ℤ) : Type 0 where
  pub placing : ℕ → Event
  pub places : Places n xs placing
  pub meets : Meets n g placing

-- the values are exactly 0, 1, .. up to the largest
pub record NoGaps (xs : List ℤ) : Type 0 where
  pub counts : (p : ℕ) → p < length xs → (k : ℕ) × (at xs p ≡ pos k)
  pub down : (p k : ℕ) → p < length xs → pos k ≤ℤ at xs p → (q : ℕ) × (q < length xs) × (at xs q ≡ pos k)

-- a number that is not negative; else 0
abbrev pub natural_of : ℤ → ℕ
natural_of (pos k) = k
natural_of (negsuc k) = 0
