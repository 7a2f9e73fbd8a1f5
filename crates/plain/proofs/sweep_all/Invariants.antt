use mathlib.Core.Path.{◌≡◌}
use lib.Count.{ones}
use lib.ListN.{length}
use Rattle.theory.specs.Allen.{allen}
use Rattle.theory.specs.Sweeps.{Progress}
use Rattle.plain.specs.Routes.{AllTo}
use Rattle.plain.proofs.sweep_all.Given as goal

abbrev pub invariant-loop-b : goal.invariant-loop-b
invariant-loop-b l = (length l.g ≡ length l.initial.g) × Progress allen ones l.n (AllTo l.n l.b) l.initial.g l.g l.changed
