use mathlib.Core.Path.{◌≡◌}
use Rattle.theory.specs.Line.{rows_to}
use Rattle.theory.proofs.StartLaws.{rows_and}
use Rattle.quick.proofs.all_waiting.Given as goal

abbrev pub invariant-loop-i : goal.invariant-loop-i
invariant-loop-i l = l.list ≡ rows_to l.n l.i

abbrev pub invariant-loop-j : goal.invariant-loop-j
invariant-loop-j l = l.list ≡ rows_and l.n l.i l.j
