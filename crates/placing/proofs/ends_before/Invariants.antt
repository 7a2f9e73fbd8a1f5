use mathlib.Core.Path.{◌≡◌}
use Prim.Native.Nat.{◌≤◌}
use Rattle.placing.specs.Settling.{end_before, count}
use Rattle.placing.proofs.ends_before.Given as goal

abbrev pub invariant-loop-q : goal.invariant-loop-q
invariant-loop-q l = (l.found ≤ l.q) × (l.found ≡ count l.q (λ z. end_before l.grid.n l.grid.cells.now z l.p))
