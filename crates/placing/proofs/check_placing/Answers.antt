-- A placing that is not refused meets every cell exactly if no cell is missed.
use mathlib.Core.Path.{◌≡◌, sym}
use mathlib.Core.Bool.{Bool, true, false, not}
use mathlib.Core.List.{List}
use Prim.Native.Nat.{ℕ}
use lib.IntN.{ℤ}
use Rattle.std.proofs.Common.{Ok}
use Rattle.refusal.proofs.ResultLaws.{none_refused}
use Rattle.placing.specs.Placing.{at}
use Rattle.placing.specs.Checking.{check_refusal, CheckSays}
use Rattle.placing.specs.Settling.{some_missed}
use Rattle.placing.proofs.CheckLaws.{check_on_time}
use Rattle.placing.proofs.PlacingLaws.{list_meets, list_misses}
use Rattle.placing.proofs.check_placing.Goals as goal

answered : (n : ℕ) (g : List ℕ) (xs : List ℤ) (r : Bool) → check_refusal n g xs ≡ 0 → r ≡ some_missed n g (at xs) → CheckSays n g xs (Ok (not r))
answered n g xs true z e = (z, list_misses n g xs (sym e))
answered n g xs false z e = (z, list_meets n g xs (check_on_time n g xs z) (sym e))

pub returns : goal.returns
returns c =
    let same = c.in_ok-placed.ensures.same in
    answered _ _ _ _ (none_refused _ _ c.judged.ensures.refusal c.in_ok-placed.was)
    (rw (same.0, same.1, same.2) at c.some_missed.ensures)
