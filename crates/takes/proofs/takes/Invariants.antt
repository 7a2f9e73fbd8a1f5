use mathlib.Core.Path.{◌≡◌}
use Prim.Native.Nat.{◌≤◌, ◌-◌}
use lib.ListN.{length}
use Rattle.theory.specs.Fair.{Fair}
use Rattle.theory.specs.Allen.{allen}
use Rattle.theory.specs.Line.{Pairs}
use Rattle.theory.specs.Quick.{run}
use Rattle.theory.proofs.StepLaws.{rest}
use Rattle.takes.proofs.takes.Given as goal

abbrev pub invariant-loop-p : goal.invariant-loop-p
invariant-loop-p l = (l.t ≤ l.limit) × (length l.g ≡ length l.initial.g) × Pairs l.n l.list
    × (rest allen l.n l.limit l.t l.g l.list ≡ run allen l.n l.limit 0 l.initial.g l.initial.list) × Fair allen l.n l.g

abbrev pub decreases-loop-p : goal.decreases-loop-p
decreases-loop-p l = l.limit - l.t
