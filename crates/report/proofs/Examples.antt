-- Worked lines, and sheets that are refused, computed from the definitions.
use mathlib.Core.Path.{◌≡◌, refl}
use mathlib.Core.List.{List, [], ◌∷◌, map}
use Prim.Native.Nat.{ℕ}
use Prim.Native.String.{String}
use Rattle.text.specs.Text.{bytes, is_number}
use Rattle.text.specs.Names.{is_name, same_name}
use Rattle.sheet.specs.Sheet.{is_entry, owners, bodies, contents, sheet}
use Rattle.report.specs.Text.{digits, decimal}
use Rattle.report.specs.Report.{placed_line, none_line, gave_up_line, refused_line, event_line, place_text, triage_text, laid}

abbrev all_bytes : List String → List (List ℕ)
all_bytes texts = map bytes texts

lines_shown : (placed_line 3 ∷ none_line 0 ∷ gave_up_line 5000 ∷ refused_line 11 999 ∷ event_line (bytes "mill") 2 5 ∷ event_line (bytes "x") 10 63 ∷ [])
    ≡ all_bytes ("placed 3\n" ∷ "none 0\n" ∷ "gave-up 5000\n" ∷ "refused 11 999\n" ∷ "mill 2 5\n" ∷ "x 10 63\n" ∷ [])
unfolding placed_line none_line gave_up_line refused_line event_line decimal digits
lines_shown = refl

-- an empty sheet; 33 events; a name listed twice
refused_shown : (place_text 5000 (bytes "") ∷ triage_text 5000 (bytes "33\n") ∷ place_text 5000 (bytes "2\na 0\na 0\n") ∷ [])
    ≡ all_bytes ("refused 9 1\n" ∷ "refused 1 1\n" ∷ "refused 10 3\n" ∷ [])
unfolding place_text triage_text refused_line decimal digits sheet is_entry is_number is_name same_name contents bodies owners
refused_shown = refl

-- rooms of ten dots, of as many as the text has bytes, of four, and of none
laid_shown : (laid (bytes "none 0\n") (bytes "..........") ∷ laid (bytes "none 0\n") (bytes ".......") ∷ laid (bytes "none 0\n") (bytes "....")
    ∷ laid (bytes "none 0\n") (bytes "") ∷ [])
    ≡ all_bytes ("none 0\n..." ∷ "none 0\n" ∷ "none" ∷ "" ∷ [])
unfolding laid
laid_shown = refl
