-- Parts of the sheet: where a name lies.
use Rattle.std.specs.Prelude.{◌≡◌, List, ℕ, ◌+◌, ◌≤◌, length, take, drop}
use Rattle.std.specs.Borrow.{Bor}
use Rattle.sheet.specs.declared.contents.Entry.{Entry}

-- a part of a text, that starts so many bytes after its first
pub record PartFrom (s : Bor (List ℕ)) (a : ℕ) (part : Bor (List ℕ)) : Type 0 where
  pub memory : part.ref_ptr.0 ≡ s.ref_ptr.0
  pub start : part.ref_ptr.1 ≡ a + s.ref_ptr.1

-- an event's name is the part of the sheet that begins at `start`: it is in the same memory, it ends within the sheet, and it has
-- the bytes that stand there
pub record InSheet (s : Bor (List ℕ)) (e : Entry) : Type 0 where
  pub from : PartFrom s e.start e.name
  pub within : e.start + length e.name.now ≤ length s.now
  pub bytes : e.name.now ≡ take (length e.name.now) (drop e.start s.now)
