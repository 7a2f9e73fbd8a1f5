-- Rules 6 and 7: what the two functions on sheets hand back.
use Rattle.std.specs.Prelude.{◌≡◌, cond, List, [], ◌∷◌, ◌++◌, ℕ, ◌+◌, ◌*◌, ltb, eqb, length, take, drop, get_or, Result, Ok, Err}
use Rattle.std.specs.Borrow.{Bor}
use Rattle.refusal.specs.Numbers.{number_of}
use Rattle.statements.specs.Grid.{grid_of}
use Rattle.sheet.specs.Sheet.{Outcome, refused, accepted, parts, sheet}
use Rattle.sheet.specs.declared.SheetRefusal.{SheetRefusal}

-- ---- the sheet reader

-- so many events, or the number of a refusal and its line
pub data Said : Type 0 where
  events : ℕ → Said
  refusal : ℕ → ℕ → Said

abbrev pub said_of : Result ℕ SheetRefusal → Said
said_of (Ok n) = events n
said_of (Err r) = refusal (number_of r.why) r.line

abbrev pub room_cells : ℕ
room_cells = 1024

-- the answer to a sheet, and the first n × n cells of the room: a refusal changes none
abbrev pub outcome_said : Outcome → Said
outcome_said (refused q line) = refusal q line
outcome_said (accepted ns cs sts) = events (length ns)

abbrev pub outcome_room : Outcome → List ℕ → List ℕ
outcome_room (refused q line) room = room
outcome_room (accepted ns cs sts) room = grid_of (length ns) sts ++ drop (length ns * length ns) room

-- a room that is not of 1,024 cells is refused first: 2, with line 0
abbrev pub read_said : List ℕ → List ℕ → Said
read_said s room = cond (eqb (length room) room_cells) (outcome_said (sheet s)) (refusal 2 0)

abbrev pub read_room : List ℕ → List ℕ → List ℕ
read_room s room = cond (eqb (length room) room_cells) (outcome_room (sheet s) room) room

-- a sheet s and a room, the answer, and the room afterwards
pub record Reads (s before : List ℕ) (r : Result ℕ SheetRefusal) (after : List ℕ) : Type 0 where
  pub answer : said_of r ≡ read_said s before
  pub room : after ≡ read_room s before

-- ---- the name of event i

-- as the contents wrote it: nothing for a sheet that is refused, or where there is no event i
abbrev pub name_of : Outcome → ℕ → List ℕ
name_of (refused q line) i = []
name_of (accepted ns cs sts) i = get_or ns i []

-- how many bytes so many lines have, each with its LF
abbrev pub bytes_in : List (List ℕ) → ℕ
bytes_in [] = 0
bytes_in (l ∷ ls) = length l + 1 + bytes_in ls

-- event i has line i + 2, and its name stands at the line's beginning: after the i + 1 lines before it
abbrev pub name_start : List ℕ → ℕ → ℕ
name_start s i = bytes_in (take (i + 1) (parts s))

-- where the part that is handed back starts in the sheet
abbrev pub start_of : Outcome → List ℕ → ℕ → ℕ
start_of (refused q line) s i = 0
start_of (accepted ns cs sts) s i = cond (ltb i (length ns)) (name_start s i) 0

-- a part of the sheet itself: in the same memory, so many bytes after the sheet's first, and so many long
pub record NamePart (s : Bor (List ℕ)) (i : ℕ) (part : Bor (List ℕ)) : Type 0 where
  pub bytes : part.now ≡ name_of (sheet s.now) i
  pub memory : part.ref_ptr.0 ≡ s.ref_ptr.0
  pub start : part.ref_ptr.1 ≡ start_of (sheet s.now) s.now i + s.ref_ptr.1
