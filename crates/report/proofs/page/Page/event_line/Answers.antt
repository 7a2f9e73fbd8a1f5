-- Name, start and end, parted by spaces, and LF follow each other.
use Rattle.report.specs.Report.{event_line}
use Rattle.report.proofs.AddsLaws.{adds_then}
use native.Mathlib.Omega.{arith}
use Rattle.report.proofs.page.Page.event_line.Goals as goal

pub returns : goal.returns
unfolding event_line
returns c =
    record {
      adds =
          adds_then c.bytes.ensures (adds_then c.byte.ensures (adds_then c.number.ensures.adds
          (adds_then c.byte-2.ensures (adds_then c.number-2.ensures.adds c.byte-3.ensures))));
      within = omega arith;
    }
