use mathlib.Core.Path.{◌≡◌}
use lib.Count.{ones}
use lib.ListN.{length}
use Rattle.theory.specs.Allen.{allen}
use Rattle.theory.specs.Sweeps.{Cuts, weight}
use Rattle.plain.proofs.sweep_to_rest.Given as goal

abbrev pub invariant-loop-changed : goal.invariant-loop-changed
invariant-loop-changed l = (length l.g ≡ length l.initial.g) × Cuts allen l.n l.initial.g l.g

abbrev pub decreases-loop-changed : goal.decreases-loop-changed
decreases-loop-changed l = weight ones l.n l.g
