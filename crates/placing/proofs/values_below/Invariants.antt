use mathlib.Core.Path.{◌≡◌}
use Prim.Native.Nat.{◌+◌}
use lib.ListN.{length, get_or}
use Rattle.placing.proofs.FillLaws.{Filled}
use Rattle.placing.specs.Settling.{values_below}
use Rattle.placing.specs.Steps.{most_ends}
use Rattle.placing.proofs.values_below.Given as goal

abbrev pub invariant-loop-v : goal.invariant-loop-v
invariant-loop-v l = (length l.belows ≡ most_ends + 1) × Filled (values_below (λ p. get_or l.counts p 0) (length l.counts)) l.belows (l.v-counter + 1)
