use mathlib.Core.Path.{◌≡◌}
use Prim.Native.Nat.{◌-◌, ◌*◌, ◌≤◌}
use lib.ListN.{length}
use Rattle.theory.specs.Allen.{allen}
use Rattle.theory.specs.Line.{Pairs}
use Rattle.theory.specs.Quick.{turns}
use Rattle.theory.specs.Cuts.{cuts_from}
use Rattle.theory.proofs.KeepLaws.{Good}
use Rattle.takes.specs.Steps.{Sees}
use Rattle.takes.proofs.take_cuts.Given as goal

abbrev pub invariant-loop-found : goal.invariant-loop-found
invariant-loop-found l = (l.c ≤ l.n * 2) × (length l.g ≡ length l.initial.g) × Pairs l.n l.list
    × (cuts_from allen l.n l.i l.j l.c l.g l.list ≡ turns allen l.n l.i l.j l.n 0 l.initial.g l.initial.list) × Good allen l.n l.initial.g l.g × Sees l.n l.g l.take

abbrev pub decreases-loop-found : goal.decreases-loop-found
decreases-loop-found l = l.n * 2 - l.c
