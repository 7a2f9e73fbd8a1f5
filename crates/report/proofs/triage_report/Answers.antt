-- The text is put into the room from its beginning.
use mathlib.Core.Path.{refl}
use Rattle.std.proofs.Common.{rules}
use Rattle.report.specs.Report.{triage_text}
use Rattle.report.proofs.AddsLaws.{adds_prints}
use Rattle.report.proofs.FoundLaws.{triage_first}
use Rattle.report.proofs.triage_report.Goals as goal

pub returns : goal.returns
unfolding triage_text
returns c =
    let e = triage_first c.args.allowance _ _ _ c.searched.ensures in
    adds_prints (rw e at c.first_line.ensures.adds) refl (search rules)
