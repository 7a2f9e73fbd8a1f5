-- Rules 6.1 and 7.2: what a sheet says, or the refusal and the line of its first faulty line.
-- The words are in `words`, names and decimal numbers in `text`.
use Rattle.std.specs.Prelude.{Bool, cond, not, ◌&&◌, List, [], ◌∷◌, ◌++◌, ℕ, zero, suc, ltb, leb, eqb, length, get_or, drop, replicate}
use Rattle.text.specs.Text.{split, is_number, value}
use Rattle.text.specs.Names.{is_name, same_name}
use Rattle.words.specs.Words.{Word, words, joined, are_words, union}
use Rattle.statements.specs.Statements.{Statement}

-- refused: the refusal's number and the line; accepted: the events' names, their numbers of statements, and the statements
pub data Outcome : Type 0 where
  refused : ℕ → ℕ → Outcome
  accepted : List (List ℕ) → List ℕ → List Statement → Outcome

abbrev pub most_bytes : ℕ
most_bytes = 65536

abbrev pub most_events : ℕ
most_events = 32

abbrev pub most_statements : ℕ
most_statements = 999

-- ---- lines and fields

-- Lines are ended by LF. Of the parts of a sheet between its LFs each but the last is a line; after the last LF nothing may stand.
abbrev pub lf : ℕ
lf = 10

abbrev pub parts : List ℕ → List (List ℕ)
parts s = split lf s

-- fields are parted by one space
abbrev pub space : ℕ
space = 32

abbrev pub fields : List ℕ → List (List ℕ)
fields l = split space l

abbrev pub field : ℕ → List ℕ → List ℕ
field k l = get_or (fields l) k []

-- ---- line 1: n, of any number of digits; 9, then 1 (0 is no fault)

abbrev pub first_fault : List ℕ → ℕ
first_fault l = cond (not (is_number l)) 9 (cond (ltb most_events (value l)) 1 0)

-- ---- n lines: a name and its number of statements, 0 to 999

abbrev pub name_in : List ℕ → List ℕ
name_in l = field 0 l

abbrev pub count_in : List ℕ → ℕ
count_in l = value (field 1 l)

unfoldable pub is_entry : List ℕ → Bool
is_entry l = eqb (length (fields l)) 2 && is_name (name_in l) && is_number (field 1 l) && leb (count_in l) most_statements

-- the number of the event of that name, or how many events there are where it is not listed
abbrev pub find : List (List ℕ) → List ℕ → ℕ
find [] m = zero
find (n ∷ ns) m = cond (same_name n m) zero (suc (find ns m))

abbrev pub listed : List (List ℕ) → List ℕ → Bool
listed ns m = ltb (find ns m) (length ns)

-- after the names ns: 9, then 10
abbrev pub entry_fault : List (List ℕ) → List ℕ → ℕ
entry_fault ns l = cond (not (is_entry l)) 9 (cond (listed ns (name_in l)) 10 0)

-- ---- the bodies: relation words joined by commas, then the other event's name; `known` are the words there are

-- the set of a line: the union of its words
abbrev pub set_in : List Word → List ℕ → ℕ
set_in known l = union known (joined (field 0 l))

-- the other event's name
abbrev pub other_in : List ℕ → List ℕ
other_in l = field 1 l

-- two fields: known words, and a name
unfoldable pub is_statement : List Word → List ℕ → Bool
is_statement known l = eqb (length (fields l)) 2 && are_words known (joined (field 0 l)) && is_name (other_in l)

-- in the body of event i: 9, then 11, then 12
abbrev pub statement_fault : List Word → List (List ℕ) → ℕ → List ℕ → ℕ
statement_fault known ns i l =
    cond (not (is_statement known l)) 9 (cond (not (listed ns (other_in l))) 11 (cond (eqb (find ns (other_in l)) i) 12 0))

-- what the line says, in the body of event i
abbrev pub statement_in : List Word → List (List ℕ) → ℕ → List ℕ → Statement
statement_in known ns i l = record { one = i; set = set_in known l; two = find ns (other_in l) }

-- the event of each statement line: event i as often as its number says, then event i + 1
unfoldable pub owners : ℕ → List ℕ → List ℕ
owners i [] = []
owners i (c ∷ cs) = replicate c i ++ owners (suc i) cs

-- ---- the whole sheet, line by line

-- the next of the parts that are left
abbrev pub next : List (List ℕ) → List ℕ
next ps = get_or ps 0 []

-- the fault of the next line: 9 where it is missing, or without its LF and so the last part
abbrev pub line_fault : (List ℕ → ℕ) → List (List ℕ) → ℕ
line_fault fault [] = 9
line_fault fault (p ∷ []) = 9
line_fault fault (p ∷ q ∷ ps) = fault p

-- the line's refusal, or what the rest of the sheet says
abbrev pub or_refused : ℕ → ℕ → Outcome → Outcome
or_refused fault line rest = cond (eqb fault 0) rest (refused fault line)

-- no line is left: only the empty part after the last LF
abbrev pub ended : List (List ℕ) → Bool
ended ps = eqb (length ps) 1 && eqb (length (next ps)) 0

-- The bodies: `ns` and `cs` are the contents, `os` the events of the lines to come, `sts` the statements read, `ps` the parts
-- of the sheet that are left, and `line` the number of the next line. A line too many is 9.
unfoldable pub bodies : List Word → List (List ℕ) → List ℕ → List ℕ → List Statement → List (List ℕ) → ℕ → Outcome
bodies known ns cs [] sts ps line = cond (ended ps) (accepted ns cs sts) (refused 9 line)
bodies known ns cs (i ∷ os) sts ps line =
    or_refused (line_fault (statement_fault known ns i) ps) line
    (bodies known ns cs os (sts ++ statement_in known ns i (next ps) ∷ []) (drop 1 ps) (suc line))

-- The contents: k lines are to come, and `ns` and `cs` were read.
unfoldable pub contents : List Word → ℕ → List (List ℕ) → List ℕ → List (List ℕ) → ℕ → Outcome
contents known zero ns cs ps line = bodies known ns cs (owners 0 cs) [] ps line
contents known (suc k) ns cs ps line =
    or_refused (line_fault (entry_fault ns) ps) line
    (contents known k (ns ++ name_in (next ps) ∷ []) (cs ++ count_in (next ps) ∷ []) (drop 1 ps) (suc line))

-- line 1, and the contents and bodies that it announces
abbrev pub first : List Word → List (List ℕ) → Outcome
first known ps = or_refused (line_fault first_fault ps) 1 (contents known (value (next ps)) [] [] (drop 1 ps) 2)

-- 8 is looked for before all lines; the words are those of Rules 6.2
unfoldable pub sheet : List ℕ → Outcome
sheet s = cond (ltb most_bytes (length s)) (refused 8 0) (first words (parts s))
