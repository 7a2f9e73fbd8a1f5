-- Rules 8: what `place` and `triage` print for a sheet, with an allowance.
use Rattle.std.specs.Prelude.{◌≡◌, List, [], ◌∷◌, ◌++◌, ℕ, zero, suc, ◌+◌, ◌*◌, ℤ, length, take, drop, get_or}
use Rattle.text.specs.Text.{bytes}
use Rattle.statements.specs.Grid.{grid_of}
use Rattle.sheet.specs.Sheet.{Outcome, refused, accepted, sheet}
use Rattle.theory.specs.Search.{Found, placed, none, gave_up}
use Rattle.search.specs.Rule.{search_of}
use Rattle.placing.specs.Placing.{at, natural_of}
use Rattle.placing.specs.Settling.{placing_of}
use Rattle.report.specs.Text.{decimal, line}

-- ---- the lines

-- a search's end and its tries
unfoldable pub placed_line : ℕ → List ℕ
placed_line tries = line (bytes "placed" ∷ decimal tries ∷ [])

unfoldable pub none_line : ℕ → List ℕ
none_line tries = line (bytes "none" ∷ decimal tries ∷ [])

unfoldable pub gave_up_line : ℕ → List ℕ
gave_up_line tries = line (bytes "gave-up" ∷ decimal tries ∷ [])

-- a refusal's number, and the line of the sheet
unfoldable pub refused_line : ℕ → ℕ → List ℕ
refused_line number at-line = line (bytes "refused" ∷ decimal number ∷ decimal at-line ∷ [])

-- name, start, end
unfoldable pub event_line : List ℕ → ℕ → ℕ → List ℕ
event_line name start end = line (name ∷ decimal start ∷ decimal end ∷ [])

-- the lines of the first k events: their names, and a placing, start then end, event by event
unfoldable pub event_lines : List (List ℕ) → List ℤ → ℕ → List ℕ
event_lines names xs zero = []
event_lines names xs (suc k) =
    event_lines names xs k ++ event_line (get_or names k []) (natural_of (at xs (2 * k))) (natural_of (at xs (2 * k + 1)))

-- ---- the whole text

-- the first line, by how the search ended
abbrev pub first_line : Found → List ℕ
first_line (placed tries g) = placed_line tries
first_line (none tries) = none_line tries
first_line (gave_up tries) = gave_up_line tries

-- after `placed`, one line an event in contents order
abbrev pub all_lines : List (List ℕ) → Found → List ℕ
all_lines names (placed tries g) = placed_line tries ++ event_lines names (placing_of (length names) g) (length names)
all_lines names (none tries) = none_line tries
all_lines names (gave_up tries) = gave_up_line tries

abbrev pub place_of : ℕ → Outcome → List ℕ
place_of allowance (refused number at-line) = refused_line number at-line
place_of allowance (accepted names counts sts) = all_lines names (search_of (length names) allowance (grid_of (length names) sts))

-- `triage` prints only the first line
abbrev pub triage_of : ℕ → Outcome → List ℕ
triage_of allowance (refused number at-line) = refused_line number at-line
triage_of allowance (accepted names counts sts) = first_line (search_of (length names) allowance (grid_of (length names) sts))

unfoldable pub place_text : ℕ → List ℕ → List ℕ
place_text allowance s = place_of allowance (sheet s)

unfoldable pub triage_text : ℕ → List ℕ → List ℕ
triage_text allowance s = triage_of allowance (sheet s)

-- ---- what is lent and handed back

-- the text as far as the room reaches, and then what the room held
unfoldable pub laid : List ℕ → List ℕ → List ℕ
laid text room = take (length room) text ++ drop (length text) room

-- the room afterwards, and the length of the whole text
pub record Prints (text room : List ℕ) (r : ℕ) (room' : List ℕ) : Type 0 where
  pub len : r ≡ length text
  pub bytes : room' ≡ laid text room

-- so many bytes are in the rooms of the programs; proofs/FewLaws.antt shows that no text is longer
abbrev pub most_printed : ℕ
most_printed = 2048
