-- No text is longer than the rooms of the programs.
use Rattle.std.proofs.Common.{arith}
use Rattle.report.proofs.FewLaws.{place_within}
use Rattle.place.proofs.printed.Goals as goal

pub returns-clause-few : goal.returns-clause-few
returns-clause-few c = place_within _ _ _ _ _ (omega arith) c.place_report.ensures
