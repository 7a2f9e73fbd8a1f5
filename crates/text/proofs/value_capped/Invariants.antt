use mathlib.Core.Path.{◌≡◌}
use Prim.Native.Nat.{◌≤◌, min}
use lib.ListN.{drop}
use Rattle.text.specs.Text.{value, value_from}
use Rattle.text.proofs.value_capped.Given as goal

abbrev pub invariant-loop-x : goal.invariant-loop-x
invariant-loop-x l = (l.v ≤ l.cap) × (min l.cap (value l.s) ≡ min l.cap (value_from l.v (drop l.x-index l.s)))
