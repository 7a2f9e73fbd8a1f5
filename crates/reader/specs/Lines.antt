-- Rules 6.5: the lines that a reader over a sheet hands on.
use Rattle.std.specs.Prelude.{cond, List, [], ◌∷◌, ℕ, ◌+◌, ◌-◌, leb, length, drop}
use Rattle.text.specs.Text.{split}
use Rattle.sheet.specs.Sheet.{lf}
use Rattle.reader.specs.declared.NextLine.{NextLine}
use Rattle.reader.specs.declared.NextLine.TheVariants.{Ends, Unended, Nothing}

-- of the parts between LFs from a place on, each but the last is a line
abbrev pub next_of : ℕ → List (List ℕ) → NextLine
next_of at [] = Nothing
next_of at (p ∷ []) = Unended
next_of at (p ∷ q ∷ ps) = Ends (at + length p)

-- the line that begins at a place: where its LF stands, or that it has none, or that nothing is left
abbrev pub line_at : List ℕ → ℕ → NextLine
line_at s at = cond (leb (length s) at) Nothing (next_of at (split lf (drop at s)))

-- how many lines a sheet has: after the last LF stands no line
abbrev pub line_count : List ℕ → ℕ
line_count s = length (split lf s) - 1
