-- The cell cut with the set is not empty exactly where the definition says so.
use mathlib.Core.Path.{ap₂}
use mathlib.Core.Bool.{not}
use Prim.Native.Nat.{ℕ}
use lib.Bits.{bit_and}
use lib.Dec.{eqb}
use Rattle.placing.specs.Settling.{end_before}
use Rattle.placing.proofs.is_before.Goals as goal

pub returns : goal.returns
unfolding end_before
returns c = ap₂ (λ (a b : ℕ). not (eqb (bit_and a b) 0)) c.get.ensures c.earlier.ensures
