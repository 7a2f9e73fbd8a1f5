-- Capped at every digit, the number so far with the digits left reads the same below the cap.
use mathlib.Core.Path.{◌∙◌}
use native.Mathlib.Omega.{arith}
use Rattle.text.proofs.TextLaws.{value-next}
use Rattle.text.proofs.value_capped.Goals as goal

pub loop-x-preserved : goal.loop-x-preserved
loop-x-preserved c =
    let e = value-next c.args.cap c.loop-x.v c.args.s.now c.loop-x.x-index (omega arith) in
    (omega arith, rw (c.min-v.ensures, c.from.ensures) (c.loop-x.invariant.1 ∙ e))
