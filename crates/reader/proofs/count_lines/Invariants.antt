-- The lines counted and the parts from the reader's place on are all the parts of the sheet.
use mathlib.Core.Path.{◌≡◌}
use Prim.Native.Nat.{ℕ, ◌+◌, ◌-◌, ◌≤◌}
use lib.ListN.{length}
use denote.Ref.{Bor}
use mathlib.Core.List.{List}
use Rattle.sheet.specs.Sheet.{parts}
use Rattle.sheet.specs.Steps.{parts_from}
use Rattle.reader.specs.declared.Reader.{Reader}
use Rattle.reader.proofs.count_lines.Given as goal

pub record SoFar (s : Bor (List ℕ)) (r : Reader) (count : ℕ) : Type 0 where
  pub sheet : r.sheet ≡ s
  pub inside : r.at ≤ length s.now
  pub few : count ≤ r.at
  pub counted : length (parts s.now) ≡ count + length (parts_from s.now r.at)

abbrev pub invariant-loop-e : goal.invariant-loop-e
invariant-loop-e l = SoFar l.initial.reader.sheet l.reader l.count

abbrev pub decreases-loop-e : goal.decreases-loop-e
decreases-loop-e l = length l.initial.reader.sheet.now - l.reader.at
