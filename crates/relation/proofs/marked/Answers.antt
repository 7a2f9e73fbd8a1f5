-- The last four digits of n, sixteen apart, each times all relations.
use Rattle.relation.proofs.PackedLaws.{marked-parts}
use Rattle.relation.proofs.marked.Goals as goal

pub returns : goal.returns
returns c = marked-parts _
