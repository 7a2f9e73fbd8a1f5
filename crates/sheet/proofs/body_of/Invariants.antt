-- Whatever was read before and comes after: the body says what the statements so far and the lines from a on say, and the grid is cut by these statements.
use mathlib.Core.Path.{◌≡◌}
use mathlib.Core.List.{List, ◌++◌}
use Prim.Native.Nat.{ℕ, ◌+◌, ◌-◌, ◌≤◌}
use lib.ListN.{length, replicate}
use Rattle.words.specs.Words.{words}
use Rattle.statements.specs.Statements.{Statement}
use Rattle.statements.specs.Grid.{cut_all}
use Rattle.sheet.specs.Sheet.{most_events, bodies}
use Rattle.sheet.specs.Steps.{parts_from, names, counts}
use Rattle.sheet.specs.declared.Place.{Place}
use Rattle.sheet.specs.declared.contents.Contents.{Contents}
use Rattle.sheet.proofs.body_of.Given as goal

-- k lines are read, and the next one begins at a
pub record SoFar (c : Contents) (i lines : ℕ) (p : Place) (g₀ g : List ℕ) (a k : ℕ) : Type 0 where
  pub inside : a ≤ length c.sheet.now
  pub short : p.line + k ≤ a + (most_events + 2)
  pub long : length g ≡ length g₀
  pub new : List Statement
  pub grid : g ≡ cut_all c.n g₀ new
  pub says : (os : List ℕ) (sts : List Statement)
      → bodies words (names c) (counts c) (replicate lines i ++ os) sts (parts_from c.sheet.now p.at) p.line
      ≡ bodies words (names c) (counts c) (replicate (lines - k) i ++ os) (sts ++ new) (parts_from c.sheet.now a) (p.line + k)

abbrev pub invariant-loop-k : goal.invariant-loop-k
invariant-loop-k l = SoFar l.contents l.i l.lines l.start l.initial.g l.g l.a l.k
