-- What the writers inside say of their steps. A reader of the public statements need not read this.
use Rattle.std.specs.Prelude.{◌≡◌, List, [], ◌∷◌, ℕ, ◌+◌, ◌*◌, ◌≤◌, ℤ, length, take, Result, Ok, Err}
use Rattle.std.proofs.lemmas.List.Edits.{sets}
use Rattle.text.specs.Text.{bytes}
use Rattle.text.specs.Names.{longest_name}
use Rattle.refusal.specs.Numbers.{number_of}
use Rattle.statements.specs.Statements.{Statement}
use Rattle.statements.specs.Grid.{grid_of}
use Rattle.sheet.specs.Sheet as Sheet
use Rattle.sheet.specs.Sheet.{refused, accepted}
use Rattle.sheet.specs.Steps.{Short, names, counts}
use Rattle.sheet.specs.declared.SheetRefusal.{SheetRefusal}
use Rattle.sheet.specs.declared.contents.Contents.{Contents}
use Rattle.search.specs.Rule.{search_of}
use Rattle.search.specs.Answers.{said_by, room_by}
use Rattle.search.specs.declared.Looked.{Looked}
use Rattle.search.specs.declared.Outcome.{Outcome}
use Rattle.search.specs.declared.Outcome.TheVariants.{Placed, None, GaveUp}
use Rattle.report.specs.Text.{decimal, line}
use Rattle.report.specs.Report.{refused_line}
use Rattle.report.specs.declared.page.Page.{Page}

-- The page has the text put in byte by byte after what it had; a byte outside the room is left out, and the room is the same one.
pub record Adds (old new : Page) (text : List ℕ) : Type 0 where
  pub next : new.len ≡ old.len + length text
  pub same : new.room.ghost_name ≡ old.room.ghost_name
  pub room : new.room.now ≡ sets old.room.now old.len text

-- a text of at most so many bytes
pub record AddsUpTo (most : ℕ) (old new : Page) (text : List ℕ) : Type 0 where
  pub adds : Adds old new text
  pub within : new.len ≤ old.len + most

-- where a text ends is a number of 64 bits
abbrev pub most_end : ℕ
most_end = 18446744073709551615

-- a number of 64 bits has at most so many digits; the word of a first line has at most so many letters
abbrev pub most_digits : ℕ
most_digits = 20

abbrev pub longest_word : ℕ
longest_word = 7

-- two numbers, two spaces and LF come after the name of an event's line, and after the word of a first line at most
abbrev pub most_after : ℕ
most_after = 2 * most_digits + 3

abbrev pub most_event : ℕ
most_event = longest_name + most_after

abbrev pub most_first : ℕ
most_first = longest_word + most_after

-- a word and its tries
abbrev pub said_line : List ℕ → ℕ → List ℕ
said_line word tries = line (word ∷ decimal tries ∷ [])

-- the word of what a search came to
abbrev pub word_of : Outcome → List ℕ
word_of Placed = bytes "placed"
word_of None = bytes "none"
word_of GaveUp = bytes "gave-up"

-- the first line of what a sheet came to
abbrev pub first_said : Result (Contents × Looked) SheetRefusal → List ℕ
first_said (Ok p) = said_line (word_of p.1.outcome) p.1.tries
first_said (Err r) = refused_line (number_of r.why) r.line

-- An accepted sheet o: its contents, what the search of its grid came to, and in front of the numbers the placing, where it is one.
pub record Came (allowance : ℕ) (o : Sheet.Outcome) (numbers : List ℤ) (c : Contents) (l : Looked) : Type 0 where
  pub short : Short (names c)
  pub statements : List Statement
  pub says : o ≡ accepted (names c) (counts c) statements
  pub looked : l ≡ said_by (search_of c.n allowance (grid_of c.n statements))
  pub placing : take (2 * c.n) numbers ≡ room_by c.n (search_of c.n allowance (grid_of c.n statements)) (take (2 * c.n) numbers)

abbrev pub Searched : ℕ → Sheet.Outcome → List ℤ → Result (Contents × Looked) SheetRefusal → Type 0
Searched allowance o numbers (Ok p) = Came allowance o numbers p.0 p.1
Searched allowance o numbers (Err r) = o ≡ refused (number_of r.why) r.line
