-- Rules 5.3 and 7: the refusals 1 to 7 in their order, and what the checker says.
use Rattle.std.specs.Prelude.{◌≡◌, Bool, true, false, not, cond, List, ℕ, ◌+◌, ◌*◌, eqb, length, ℤ, Result, Ok, Err}
use Rattle.std.specs.Int.Signed.{lt_z}
use Rattle.refusal.specs.Answered.{first_of}
use Rattle.refusal.specs.Numbers.{number_of}
use Rattle.refusal.specs.declared.Refusal.{Refusal}
use Rattle.relation.specs.Sets.{some}
use Rattle.grid.specs.Accepted.{size_refusal, cell_refusal}
use Rattle.placing.specs.Placing.{at, MeetsAt}

-- 1, then 2, then 6 for a placing, or room for one, of m numbers; 0 is none
unfoldable pub length_refusal : ℕ → List ℕ → ℕ → ℕ
length_refusal n g m = first_of (size_refusal n g) (cond (eqb m (2 * n)) 0 6)

-- the start of event i is not before its end, where v gives the ends: start then end, event by event
abbrev pub late : (ℕ → ℤ) → ℕ → Bool
late v i = not (lt_z (v (2 * i)) (v (2 * i + 1)))

abbrev pub some_late : ℕ → (ℕ → ℤ) → Bool
some_late n v = some n (late v)

-- of a grid and a placing of the right lengths: 3, 4, 5, then 7; 0 is none
unfoldable pub rest_refusal : ℕ → List ℕ → List ℤ → ℕ
rest_refusal n g xs = first_of (cell_refusal n g) (cond (some_late n (at xs)) 7 0)

-- 1, 2, 6, then 3, 4, 5, then 7, each looked for over everything before the next; 0 is none
unfoldable pub check_refusal : ℕ → List ℕ → List ℤ → ℕ
check_refusal n g xs = first_of (length_refusal n g (length xs)) (rest_refusal n g xs)

-- a refusal exactly in its case; yes exactly if the placing meets every cell
abbrev pub CheckSays : ℕ → List ℕ → List ℤ → Result Bool Refusal → Type 0
CheckSays n g xs (Ok true) = (check_refusal n g xs ≡ 0) × MeetsAt n g xs
CheckSays n g xs (Ok false) = (check_refusal n g xs ≡ 0) × (MeetsAt n g xs → ⊥)
CheckSays n g xs (Err r) = check_refusal n g xs ≡ number_of r
