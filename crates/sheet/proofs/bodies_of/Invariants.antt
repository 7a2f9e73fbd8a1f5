-- The bodies from the start say what the statements so far and the bodies of event i and those after it say.
use mathlib.Core.Path.{◌≡◌}
use mathlib.Core.List.{List, []}
use Prim.Native.Nat.{ℕ, ◌+◌, ◌≤◌}
use lib.ListN.{length, drop}
use Rattle.words.specs.Words.{words}
use Rattle.statements.specs.Statements.{Statement}
use Rattle.statements.specs.Grid.{cut_all}
use Rattle.sheet.specs.Sheet.{most_events, owners, bodies}
use Rattle.sheet.specs.Steps.{parts_from, names, counts}
use Rattle.sheet.specs.declared.Place.{Place}
use Rattle.sheet.specs.declared.contents.Contents.{Contents}
use Rattle.sheet.proofs.bodies_of.Given as goal

-- the bodies before event i's are read, and its own begins at the place p
pub record SoFar (c : Contents) (start : ℕ) (g₀ g : List ℕ) (p : Place) (i : ℕ) : Type 0 where
  pub inside : p.at ≤ length c.sheet.now
  pub short : p.line ≤ p.at + (most_events + 2)
  pub long : length g ≡ length g₀
  pub new : List Statement
  pub grid : g ≡ cut_all c.n g₀ new
  pub says : bodies words (names c) (counts c) (owners 0 (counts c)) [] (parts_from c.sheet.now start) (c.n + 2)
      ≡ bodies words (names c) (counts c) (owners i (drop i (counts c))) new (parts_from c.sheet.now p.at) p.line

abbrev pub invariant-loop-i : goal.invariant-loop-i
invariant-loop-i l = SoFar l.contents l.start l.initial.g l.g l.place l.i
