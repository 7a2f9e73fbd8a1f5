-- The text is put into the room from its beginning: the first line, and after `placed` the lines of the events.
use mathlib.Core.Path.{refl}
use Rattle.std.proofs.Common.{rules}
use Rattle.report.specs.Report.{place_text}
use Rattle.report.proofs.AddsLaws.{adds_then, adds_prints}
use Rattle.report.proofs.FoundLaws.{place_refused, place_first, place_lines}
use Rattle.report.proofs.place_report.Goals as goal
use Rattle.report.proofs.place_report.Goals.{in-Ok+in-Placed, in-Ok+in_default-outcome, in_default}

pub returns : goal.returns
unfolding place_text
returns c =
    elim c.match-found.branch [
      | in-Ok+in-Placed w ↦
          let came = rw w.in-Ok.is at c.searched-found.ensures in
          let e = place_lines c.args.allowance _ _ w.in-Ok.contents w.in-Ok.looked came w.in-Placed.is in
          let lines = adds_then (rw w.in-Ok.is at c.first_line.ensures.adds) (rw (← w.page-is) at w.event_lines.ensures) in
          adds_prints (rw e at lines) refl (search rules)
      | in-Ok+in_default-outcome w ↦
          let came = rw w.in-Ok.is at c.searched-found.ensures in
          let e = place_first c.args.allowance _ _ w.in-Ok.contents w.in-Ok.looked came w.in_default-outcome.not-Placed in
          adds_prints (rw (w.in-Ok.is, e, ← w.page-is) at c.first_line.ensures.adds) refl (search rules)
      | in_default w ↦
          let e = place_refused c.args.allowance _ _ _ _ w.in_default.is c.searched-found.ensures in
          adds_prints (rw (e, ← w.page-is) at c.first_line.ensures.adds) refl (search rules)
    ]
