-- No text is longer than the rooms of the programs.
use Rattle.std.proofs.Common.{arith}
use Rattle.report.proofs.FewLaws.{triage_within}
use Rattle.triage.proofs.printed.Goals as goal

pub returns-clause-few : goal.returns-clause-few
returns-clause-few c = triage_within _ _ _ _ _ (omega arith) c.triage_report.ensures
