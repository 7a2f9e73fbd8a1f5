-- Each turn puts the line of one event more.
use Prim.Native.Nat.{◌+◌, ◌*◌}
use native.Mathlib.Omega.{arith}
use Rattle.placing.specs.Placing.{at}
use Rattle.report.proofs.EventLaws.{adds_no_line, adds-line, natural-is}
use Rattle.report.proofs.event_lines.Goals as goal

pub loop-i-init : goal.loop-i-init
loop-i-init c = record { within = omega arith; adds = adds_no_line c.args.page.now _ c.args.numbers.now }

pub loop-i-preserved : goal.loop-i-preserved
loop-i-preserved c =
    record {
      within = omega (arith, c.event_line.ensures.within);
      adds =
          adds-line _ c.args.numbers.now c.loop-i.i _ _ _ c.name.ensures.bytes
          (natural-is (at c.args.numbers.now (2 * c.loop-i.i)) (omega arith) _ c.natural-start.ensures)
          (natural-is (at c.args.numbers.now (2 * c.loop-i.i + 1)) (omega arith) _ c.natural-end.ensures)
          c.loop-i.invariant.adds c.event_line.ensures.adds;
    }
