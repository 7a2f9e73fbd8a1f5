-- Both sides of the limits on a sheet, computed from the definitions: the refusals' numbers, 0 for none.
use mathlib.Core.Path.{◌≡◌, refl}
use mathlib.Core.List.{List, [], ◌∷◌}
use Prim.Native.Nat.{ℕ, suc, ◌≤◌}
use native.Mathlib.Omega.{arith}
use lib.ListN.{length, replicate, length-replicate}
use borrow.Author.Tests.{le-ltb}
use Rattle.text.specs.Text.{bytes, split, is_number}
use Rattle.text.specs.Names.{is_name, same_name}
use Rattle.sheet.specs.Sheet.{Outcome, refused, accepted, most_bytes, lf, first_fault, is_entry, entry_fault, line_fault, owners, bodies, contents, sheet}
use Rattle.sheet.specs.Answers.{Said, events, refusal, read_said}
use Rattle.sheet.proofs.SheetLaws.{sheet-long}

-- ---- a sheet of so many bytes, all of them LF: its first line is faulty, unless the sheet is too long

unfoldable pub blank : ℕ → List ℕ
blank k = replicate k lf

abbrev refusal_in : Outcome → ℕ
refusal_in (refused q line) = q
refusal_in (accepted ns cs sts) = 0

empty-first : (ps : List (List ℕ)) → line_fault first_fault ([] ∷ ps) ≡ 9
unfolding is_number
empty-first [] = refl
empty-first (p ∷ ps) = refl

blank_taken : (k : ℕ) → suc k ≤ 65536 → sheet (blank (suc k)) ≡ refused 9 1
unfolding sheet blank
blank_taken k h =
    rw (le-ltb most_bytes (suc (length (replicate k lf))) (omega (arith, length-replicate k lf)), empty-first (split lf (replicate k lf)))

blank_refused : (k : ℕ) → 65537 ≤ k → sheet (blank k) ≡ refused 8 0
unfolding blank
blank_refused k h = sheet-long (replicate k lf) (omega (arith, length-replicate k lf))

-- ---- the first line; an event's number of statements; the room of the sheet reader

abbrev said_refusal : Said → ℕ
said_refusal (events n) = 0
said_refusal (refusal q line) = q

abbrev with_room : ℕ → ℕ
with_room cells = said_refusal (read_said (bytes "0\n") (replicate cells 0))

abbrev others : List ℕ
others =
    first_fault (bytes "32") ∷ first_fault (bytes "33") ∷ entry_fault [] (bytes "a 999") ∷ entry_fault [] (bytes "a 1000")
    ∷ with_room 1023 ∷ with_room 1024 ∷ with_room 1025 ∷ []

others_shown : others ≡ 0 ∷ 1 ∷ 0 ∷ 9 ∷ 2 ∷ 0 ∷ 2 ∷ []
unfolding sheet is_entry is_number is_name same_name contents bodies owners
others_shown = refl

unfoldable pub edges : List ℕ
edges = refusal_in (sheet (blank 65536)) ∷ refusal_in (sheet (blank 65537)) ∷ others

pub edges_shown : edges ≡ 9 ∷ 8 ∷ 0 ∷ 1 ∷ 0 ∷ 9 ∷ 2 ∷ 0 ∷ 2 ∷ []
unfolding edges
edges_shown = cc (blank_taken 65535 (omega arith), blank_refused 65537 (omega arith), others_shown)
