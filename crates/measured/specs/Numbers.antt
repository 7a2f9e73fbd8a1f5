-- The answers of the public functions as numbers, for a caller in C.
use Rattle.std.specs.Prelude.{◌≡◌, ℕ, ◌+◌, ◌*◌, ◌%◌, Result, Ok, Err}
use Rattle.refusal.specs.Numbers.{number_of}
use Rattle.refusal.specs.declared.Refusal.{Refusal}
use Rattle.takes.specs.declared.End.{End as QuickEnd}
use Rattle.takes.specs.declared.End.TheVariants as Quick
use Rattle.plain.specs.declared.End.{End as PlainEnd}
use Rattle.plain.specs.declared.End.TheVariants as Plain
use Rattle.search.specs.declared.Looked.{Looked}
use Rattle.search.specs.declared.Outcome.{Outcome}
use Rattle.search.specs.declared.Outcome.TheVariants as Search
use Rattle.sheet.specs.declared.SheetRefusal.{SheetRefusal}

-- r is the number of an answer that the function's own statement allows
abbrev pub Numbered : {A : Type 0} → (A → Type 0) → (A → ℕ) → ℕ → Type 0
Numbered {A} Allowed number r = (a : A) × Allowed a × (r ≡ number a)

-- the kind of an answer, and what it carries below 2 to the power 32
abbrev pub coded : ℕ → ℕ → ℕ
coded kind value = kind * 4294967296 + value % 4294967296

-- an answer by its own number, or a refusal
abbrev pub answer_number : {A : Type 0} → (A → ℕ) → Result A Refusal → ℕ
answer_number number (Ok a) = number a
answer_number number (Err why) = coded 3 (number_of why)

abbrev pub set_number : Result ℕ Refusal → ℕ
set_number = answer_number (coded 0)

abbrev pub quick_end_number : QuickEnd → ℕ
quick_end_number (Quick.Closed takes) = coded 0 takes
quick_end_number (Quick.Contradiction takes) = coded 1 takes
quick_end_number (Quick.Paused takes) = coded 2 takes

abbrev pub quick_number : Result QuickEnd Refusal → ℕ
quick_number = answer_number quick_end_number

abbrev pub plain_end_number : PlainEnd → ℕ
plain_end_number Plain.Closed = coded 0 0
plain_end_number Plain.Contradiction = coded 1 0

abbrev pub plain_number : Result PlainEnd Refusal → ℕ
plain_number = answer_number plain_end_number

abbrev pub outcome_number : Outcome → ℕ
outcome_number Search.Placed = 0
outcome_number Search.None = 1
outcome_number Search.GaveUp = 2

abbrev pub looked_number : Looked → ℕ
looked_number l = coded (outcome_number l.outcome) l.tries

abbrev pub place_number : Result Looked Refusal → ℕ
place_number = answer_number looked_number

-- a refused sheet has the number of its refusal as its kind, and carries the line
abbrev pub sheet_number : Result ℕ SheetRefusal → ℕ
sheet_number (Ok n) = coded 0 n
sheet_number (Err r) = coded (number_of r.why) r.line
