use Prim.Native.Nat.{◌+◌, ◌*◌, ◌≤◌}
use Rattle.sheet.specs.Steps.{names}
use Rattle.report.specs.Report.{event_lines}
use Rattle.report.specs.Steps.{Adds, most_event}
use Rattle.report.proofs.event_lines.Given as goal

abbrev pub invariant-loop-i : goal.invariant-loop-i
invariant-loop-i l =
    record {
      within : l.page.len ≤ l.fn.page.len + most_event * l.i;
      adds : Adds l.fn.page l.page (event_lines (names l.contents) l.numbers l.i);
    }
