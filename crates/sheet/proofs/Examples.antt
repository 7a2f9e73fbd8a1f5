-- Worked sheets, computed from the definition.
use mathlib.Core.Path.{◌≡◌, refl}
use mathlib.Core.List.{List, [], ◌∷◌, map}
use Prim.Native.Nat.{ℕ}
use Prim.Native.String.{String}
use Rattle.text.specs.Text.{bytes, is_number}
use Rattle.text.specs.Names.{is_name, same_name}
use Rattle.words.specs.Words.{words, meaning}
use Rattle.statements.specs.Statements.{Statement}
use Rattle.statements.proofs.StatementLaws.{st}
use Rattle.sheet.specs.Sheet.{Outcome, refused, accepted, is_entry, is_statement, owners, bodies, contents, sheet}

record Worked : Type 0 where
  text : String
  says : Outcome

abbrev says : String → Outcome → Worked
says text outcome = record { text = text; says = outcome }

abbrev named : List String → List ℕ → List Statement → Outcome
named ns cs sts = accepted (map bytes ns) cs sts

abbrev worked : List Worked
worked =
    -- the sheet of the manual; no events; one event; a repeated word adds nothing
    says "3\nmill 0\nflood 1\nwedding 1\nd mill\nb,m flood\n" (named ("mill" ∷ "flood" ∷ "wedding" ∷ []) (0 ∷ 1 ∷ 1 ∷ []) (st 1 256 0 ∷ st 2 5 1 ∷ []))
    ∷ says "0\n" (named [] [] [])
    ∷ says "1\na 0\n" (named ("a" ∷ []) (0 ∷ []) [])
    ∷ says "2\na 1\nb 0\nb,b,meanwhile b\n" (named ("a" ∷ "b" ∷ []) (1 ∷ 0 ∷ []) (st 0 8177 1 ∷ []))
    -- an empty sheet; a line without its LF; a line too many; something after the last LF; a missing line
    ∷ says "" (refused 9 1)
    ∷ says "0" (refused 9 1)
    ∷ says "0\n\n" (refused 9 2)
    ∷ says "0\nx" (refused 9 2)
    ∷ says "1\na 1\n" (refused 9 3)
    -- line 1: leading zeros; n above 32
    ∷ says "00\n" (refused 9 1)
    ∷ says "33\n" (refused 1 1)
    -- the contents: two spaces; a leading zero; a count above 999; a name listed twice, and so on a line that breaks the form
    ∷ says "1\na  1\n" (refused 9 2)
    ∷ says "1\na 01\n" (refused 9 2)
    ∷ says "1\na 1000\n" (refused 9 2)
    ∷ says "2\na 0\na 0\n" (refused 10 3)
    ∷ says "2\na 0\na 1000\n" (refused 9 3)
    -- the bodies: an empty word; no listed event, and so on a line that breaks the form; an event about itself
    ∷ says "2\na 1\nb 0\nb,,m b\n" (refused 9 4)
    ∷ says "1\na 1\nb c\n" (refused 11 3)
    ∷ says "1\na 1\nz c\n" (refused 9 3)
    ∷ says "1\na 1\nb a\n" (refused 12 3)
    ∷ []

shown : map (λ (w : Worked). sheet (bytes w.text)) worked ≡ map (λ (w : Worked). w.says) worked
unfolding sheet is_entry is_statement is_number is_name same_name meaning words contents bodies owners
shown = refl
