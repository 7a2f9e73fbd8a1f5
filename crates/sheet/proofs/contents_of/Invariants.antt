-- The contents from the start say what the events so far and the lines from a on say.
use mathlib.Core.Path.{◌≡◌}
use mathlib.Core.List.{List, []}
use Prim.Native.Nat.{ℕ, ◌+◌, ◌-◌}
use denote.Ref.{Bor}
use Rattle.words.specs.Words.{words}
use Rattle.sheet.specs.Sheet.{contents}
use Rattle.sheet.specs.Steps.{parts_from, Begins, names, counts, ContentsOf}
use Rattle.sheet.specs.declared.contents.Contents.{Contents}
use Rattle.sheet.proofs.contents_of.Given as goal

-- i events are listed, and the next line begins at a
pub record SoFar (s : Bor (List ℕ)) (n start : ℕ) (c : Contents) (a i : ℕ) : Type 0 where
  pub keeps : ContentsOf s i c
  pub begins : Begins s.now (i + 1) a
  pub says : contents words n [] [] (parts_from s.now start) 2 ≡ contents words (n - i) (names c) (counts c) (parts_from s.now a) (i + 2)

abbrev pub invariant-loop-i : goal.invariant-loop-i
invariant-loop-i l = SoFar l.initial.contents.sheet l.n l.start l.contents l.a l.i
