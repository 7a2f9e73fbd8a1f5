use mathlib.Core.Path.{◌≡◌}
use Prim.Native.Nat.{◌%◌, ◌^◌}
use Rattle.relation.specs.Composition.{converse}
use Rattle.relation.proofs.converse_of.Given as goal

abbrev pub invariant-loop-r : goal.invariant-loop-r
invariant-loop-r l = l.out ≡ converse (l.a % 2 ^ l.r)
