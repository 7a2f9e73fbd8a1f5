-- The lengths are right where they are not refused.
use Rattle.refusal.proofs.ResultLaws.{none_refused}
use Rattle.placing.proofs.CheckLaws.{lengths}
use native.Mathlib.Omega.{arith}
use Rattle.placing.proofs.judged.Goals as goal

pub invariant_of-placed : goal.invariant_of-placed
invariant_of-placed c =
    let s = lengths _ _ _ (none_refused _ _ c.sized.ensures.refusal c.in_ok-grid.was) in
    record { long = omega (arith, c.in_ok-grid.ensures.same.0) }
