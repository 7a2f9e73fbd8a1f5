-- Word, space, number and LF follow each other.
use Rattle.report.proofs.AddsLaws.{adds_then}
use native.Mathlib.Omega.{arith}
use Rattle.report.proofs.page.Page.said_line.Goals as goal

pub returns : goal.returns
returns c =
    record {
      adds = adds_then c.bytes.ensures (adds_then c.byte.ensures (adds_then c.number.ensures.adds c.byte-2.ensures));
      within = omega arith;
    }
