-- What the inner functions of the sheet reader say of their steps. A reader of the public statements need not read this.
-- `known` are the words there are.
use Rattle.std.specs.Prelude.{◌≡◌, true, false, List, [], ◌++◌, ℕ, ◌+◌, ◌*◌, ◌≤◌, ◌<◌, length, take, drop, get_or, replicate, map, Option, Some, None, Result, Ok, Err}
use Rattle.std.specs.List.{slice_get}
use Rattle.std.specs.Borrow.{Bor}
use Rattle.refusal.specs.Numbers.{number_of}
use Rattle.refusal.specs.declared.Refusal.{Refusal}
use Rattle.text.specs.Text.{split, value}
use Rattle.text.specs.Names.{longest_name}
use Rattle.words.specs.Words.{Word}
use Rattle.statements.specs.Statements.{Statement}
use Rattle.statements.specs.Grid.{cut_all, grid_of}
use Rattle.sheet.specs.Sheet.{Outcome, refused, accepted, most_events, lf, parts, first_fault, name_in, count_in, is_entry, entry_fault, find, set_in, other_in, is_statement, statement_fault, owners, next, line_fault, bodies, contents}
use Rattle.sheet.specs.Answers.{bytes_in, name_start}
use Rattle.sheet.specs.Parts.{PartFrom, InSheet}
use Rattle.sheet.specs.declared.SheetRefusal.{SheetRefusal}
use Rattle.sheet.specs.declared.Place.{Place}
use Rattle.sheet.specs.declared.contents.Entry.{Entry}
use Rattle.sheet.specs.declared.contents.Contents.{Contents}

-- ---- lines

-- the parts of the sheet from a on
abbrev pub parts_from : List ℕ → ℕ → List (List ℕ)
parts_from s a = split lf (drop a s)

-- a line begins at a, and the next one at b
pub record Ends (s : List ℕ) (a b : ℕ) : Type 0 where
  pub low : a < b
  pub high : b ≤ length s
  pub rest : drop 1 (parts_from s a) ≡ parts_from s b
  pub bytes : a + length (next (parts_from s a)) + 1 ≡ b

-- k lines of the sheet end before a, and the next one begins there
pub record Begins (s : List ℕ) (k a : ℕ) : Type 0 where
  pub inside : a ≤ length s
  pub bytes : bytes_in (take k (parts s)) ≡ a
  pub rest : drop k (parts s) ≡ parts_from s a

-- ---- line 1

-- so many events, and the next line begins at b
pub record FirstRead (s : List ℕ) (n b : ℕ) : Type 0 where
  pub sound : line_fault first_fault (parts s) ≡ 0
  pub few : n ≤ most_events
  pub events : value (next (parts s)) ≡ n
  pub begins : Begins s 1 b
  pub rest : drop 1 (parts s) ≡ parts_from s b

abbrev pub FirstSays : List ℕ → Result (ℕ × ℕ) Refusal → Type 0
FirstSays s (Ok p) = FirstRead s p.0 p.1
FirstSays s (Err r) = line_fault first_fault (parts s) ≡ number_of r

-- ---- the contents

-- the entries that are filled, their names, where these begin, and their numbers of statements
abbrev pub entries_of : Contents → List Entry
entries_of c = take c.n c.entries

abbrev pub name_in_entry : Entry → List ℕ
name_in_entry e = e.name.now

abbrev pub start_in_entry : Entry → ℕ
start_in_entry e = e.start

abbrev pub count_in_entry : Entry → ℕ
count_in_entry e = e.statements

abbrev pub names : Contents → List (List ℕ)
names c = map name_in_entry (entries_of c)

abbrev pub starts : Contents → List ℕ
starts c = map start_in_entry (entries_of c)

abbrev pub counts : Contents → List ℕ
counts c = map count_in_entry (entries_of c)

-- a line by itself: m, its name, stands at its beginning, and v is its number of statements
pub record EntryIs (l m : Bor (List ℕ)) (v : ℕ) : Type 0 where
  pub form : is_entry l.now ≡ true
  pub name : name_in l.now ≡ m.now
  pub part : PartFrom l 0 m
  pub inside : length m.now ≤ length l.now
  pub bytes : m.now ≡ take (length m.now) l.now
  pub count : count_in l.now ≡ v

abbrev pub EntryHas : Bor (List ℕ) → Option (Bor (List ℕ) × ℕ) → Type 0
EntryHas l (Some p) = EntryIs l p.0 p.1
EntryHas l None = is_entry l.now ≡ false

-- the line that begins at a, after the contents so far
pub record EntryRead (c : Contents) (a : ℕ) (e : Entry) (b : ℕ) : Type 0 where
  pub sound : line_fault (entry_fault (names c)) (parts_from c.sheet.now a) ≡ 0
  pub ends : Ends c.sheet.now a b
  pub start : e.start ≡ a
  pub inside : a + length e.name.now < b
  pub name : name_in (next (parts_from c.sheet.now a)) ≡ e.name.now
  pub part : InSheet c.sheet e
  pub count : count_in (next (parts_from c.sheet.now a)) ≡ e.statements

abbrev pub EntrySays : Contents → ℕ → Result (Entry × ℕ) Refusal → Type 0
EntrySays c a (Ok p) = EntryRead c a p.0 p.1
EntrySays c a (Err r) = line_fault (entry_fault (names c)) (parts_from c.sheet.now a) ≡ number_of r

-- names of at most 16 bytes
abbrev pub Short : List (List ℕ) → Type 0
Short ns = (i : ℕ) → i < length ns → length (get_or ns i []) ≤ longest_name

-- event i: its name stands at the beginning of its line, and ends within the sheet
pub record Stands (s : Bor (List ℕ)) (i : ℕ) (e : Entry) : Type 0 where
  pub part : PartFrom s (name_start s.now i) e.name
  pub start : e.start ≡ name_start s.now i
  pub within : e.start + length e.name.now ≤ length s.now

abbrev pub Stand : Bor (List ℕ) → List Entry → Type 0
Stand s es = (i : ℕ) (e : Entry) → slice_get es i ≡ Some e → Stands s i e

-- contents of n events
pub record ContentsOf (s : Bor (List ℕ)) (n : ℕ) (c : Contents) : Type 0 where
  pub sheet : c.sheet ≡ s
  pub events : c.n ≡ n
  pub stand : Stand s (entries_of c)

-- The contents that begin at a are read up to b: the bodies are left.
pub record ContentsRead (known : List Word) (s : Bor (List ℕ)) (n a : ℕ) (c : Contents) (b : ℕ) : Type 0 where
  pub inside : b ≤ length s.now
  pub keeps : ContentsOf s n c
  pub says : contents known n [] [] (parts_from s.now a) 2 ≡ bodies known (names c) (counts c) (owners 0 (counts c)) [] (parts_from c.sheet.now b) (c.n + 2)

abbrev pub ContentsSay : List Word → Bor (List ℕ) → ℕ → ℕ → Contents → Result ℕ SheetRefusal → Type 0
ContentsSay known s n a c (Ok b) = ContentsRead known s n a c b
ContentsSay known s n a c (Err r) = contents known n [] [] (parts_from s.now a) 2 ≡ refused (number_of r.why) r.line

-- ---- the bodies: each statement cuts the grid

-- a line by itself: the set of its words is u, and m is the other event's name
pub record StatementIs (known : List Word) (l : List ℕ) (u : ℕ) (m : List ℕ) : Type 0 where
  pub form : is_statement known l ≡ true
  pub other : other_in l ≡ m
  pub set : set_in known l ≡ u

abbrev pub StatementHas : List Word → List ℕ → Option (ℕ × Bor (List ℕ)) → Type 0
StatementHas known l (Some p) = StatementIs known l p.0 p.1.now
StatementHas known l None = is_statement known l ≡ false

-- the line that begins at a, in the body of event i: its set, and event j
pub record StatementRead (known : List Word) (ns : List (List ℕ)) (i : ℕ) (s : List ℕ) (a u j b : ℕ) : Type 0 where
  pub sound : line_fault (statement_fault known ns i) (parts_from s a) ≡ 0
  pub ends : Ends s a b
  pub set : set_in known (next (parts_from s a)) ≡ u
  pub other : find ns (other_in (next (parts_from s a))) ≡ j
  pub inside : j < length ns

abbrev pub StatementSays : List Word → List (List ℕ) → ℕ → List ℕ → ℕ → Result (ℕ × ℕ × ℕ) Refusal → Type 0
StatementSays known ns i s a (Ok p) = StatementRead known ns i s a p.0 p.1 p.2
StatementSays known ns i s a (Err r) = line_fault (statement_fault known ns i) (parts_from s a) ≡ number_of r

-- The body of event i begins at the place p. It is read up to the place q: whatever statements sts were read before, and
-- whatever lines os come after.
pub record BodyRead (known : List Word) (c : Contents) (i : ℕ) (p : Place) (g g' : List ℕ) (q : Place) : Type 0 where
  pub inside : q.at ≤ length c.sheet.now
  pub few : q.line ≤ q.at + (most_events + 2)
  pub new : List Statement
  pub grid : g' ≡ cut_all c.n g new
  pub says : (os : List ℕ) (sts : List Statement)
      → bodies known (names c) (counts c) (replicate (get_or (counts c) i 0) i ++ os) sts (parts_from c.sheet.now p.at) p.line
      ≡ bodies known (names c) (counts c) os (sts ++ new) (parts_from c.sheet.now q.at) q.line

abbrev pub BodySays : List Word → Contents → ℕ → Place → List ℕ → List ℕ → Result Place SheetRefusal → Type 0
BodySays known c i p g g' (Ok q) = BodyRead known c i p g g' q
BodySays known c i p g g' (Err r) =
    (os : List ℕ) (sts : List Statement)
    → bodies known (names c) (counts c) (replicate (get_or (counts c) i 0) i ++ os) sts (parts_from c.sheet.now p.at) p.line ≡ refused (number_of r.why) r.line

-- All bodies are read, and nothing is left.
pub record BodiesRead (known : List Word) (c : Contents) (a : ℕ) (g g' : List ℕ) : Type 0 where
  pub new : List Statement
  pub grid : g' ≡ cut_all c.n g new
  pub says : bodies known (names c) (counts c) (owners 0 (counts c)) [] (parts_from c.sheet.now a) (c.n + 2) ≡ accepted (names c) (counts c) new

abbrev pub BodiesSay : List Word → Contents → ℕ → List ℕ → List ℕ → Result Unit SheetRefusal → Type 0
BodiesSay known c a g g' (Ok u) = BodiesRead known c a g g'
BodiesSay known c a g g' (Err r) = bodies known (names c) (counts c) (owners 0 (counts c)) [] (parts_from c.sheet.now a) (c.n + 2) ≡ refused (number_of r.why) r.line

-- ---- the whole sheet

-- An accepted sheet o: its names stand in the contents, and the first n × n cells are its grid.
pub record SheetRead (o : Outcome) (s : Bor (List ℕ)) (g : List ℕ) (c : Contents) : Type 0 where
  pub keeps : ContentsOf s c.n c
  pub statements : List Statement
  pub says : o ≡ accepted (names c) (counts c) statements
  pub grid : take (c.n * c.n) g ≡ grid_of c.n statements

abbrev pub SheetSays : Outcome → Bor (List ℕ) → List ℕ → Result Contents SheetRefusal → Type 0
SheetSays o s g (Ok c) = SheetRead o s g c
SheetSays o s g (Err r) = o ≡ refused (number_of r.why) r.line

-- ---- a name handed back

-- the name of event i, as the contents keep it, or the empty part at the sheet's beginning
pub record PartAt (c : Contents) (i : ℕ) (part : Bor (List ℕ)) : Type 0 where
  pub bytes : part.now ≡ get_or (names c) i []
  pub event : (e : Entry) → slice_get (entries_of c) i ≡ Some e → part ≡ e.name
  pub none : c.n ≤ i → PartFrom c.sheet 0 part
  pub memory : part.ref_ptr.0 ≡ c.sheet.ref_ptr.0
  pub start : part.ref_ptr.1 ≡ get_or (starts c) i 0 + c.sheet.ref_ptr.1
