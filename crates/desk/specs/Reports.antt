-- What a program that reports on sheets does: all of the sheet is read, and what the report is, is written.
use Rattle.std.specs.Prelude.{◌≡◌, ℕ, ◌<◌, ◌≤◌, List, length, take, Option}
use Rattle.std.specs.Io.KnownBytes.{Appends, Consumes, IsAtEnd}
use denote.Ref.{Bor, MutBor}
use denote.Param.Members.{Once}

-- so many bytes are read at most, one more than a sheet may have
abbrev pub most_read : ℕ
most_read = 65537

-- what is lent, the sheet and the room, and what is handed back, a number and the room
abbrev pub Report : Type 0 → Type 1
Report F = Once F (Bor (List ℕ) × (MutBor (List ℕ) × Unit {0})) (ℕ × (MutBor (List ℕ) × Unit {0}))

-- the report on the sheet may be the first n bytes of room', where the room held `room`
pub record Reports {F : Type 0} (g : Report F) (report : F) (sheet room : List ℕ) (n : ℕ) (room' : List ℕ) : Type 0 where
  pub shown : Bor (List ℕ)
  pub lent : MutBor (List ℕ)
  pub left : MutBor (List ℕ)
  pub shows : shown.now ≡ sheet
  pub lends : lent.now ≡ room
  pub met : g.post report (shown, (lent, tt)) (n, (left, tt))
  pub leaves : left.now ≡ room'

-- no report is longer than the room
pub record Fits {F : Type 0} (g : Report F) (report : F) (room : List ℕ) : Type 0 where
  pub at : (sheet : List ℕ) (n : ℕ) (room' : List ℕ) → Reports g report sheet room n room' → n ≤ length room

-- a reader lost a sheet, the whole input where it is shorter than what may be read, and a writer got the report on it
pub record Answers {F : Type 0} (g : Report F) (report : F) (before after : Option (List ℕ)) (room room' : List ℕ) (held holds : Option (List ℕ)) : Type 0 where
  pub sheet : List ℕ
  pub read : Consumes before after sheet
  pub whole : length sheet < most_read → IsAtEnd after
  pub n : ℕ
  pub reported : Reports g report sheet room n room'
  pub written : Appends held holds (take n room')
