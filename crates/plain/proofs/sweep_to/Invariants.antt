use mathlib.Core.Path.{◌≡◌}
use lib.Count.{ones}
use lib.ListN.{length}
use Rattle.theory.specs.Allen.{allen}
use Rattle.theory.specs.Sweeps.{Progress}
use Rattle.plain.specs.Routes.{EventTo}
use Rattle.plain.proofs.sweep_to.Given as goal

abbrev pub invariant-loop-m : goal.invariant-loop-m
invariant-loop-m l = (length l.g ≡ length l.initial.g) × Progress allen ones l.n (EventTo l.n l.b l.m) l.initial.g l.g l.changed
