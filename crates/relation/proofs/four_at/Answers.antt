-- Four entries of the table, side by side.
use Rattle.relation.proofs.PackedLaws.{four_entries}
use Rattle.relation.proofs.four_at.Goals as goal

pub returns : goal.returns
returns c = four_entries _ _ _ _ _ _ c.requires.1 c.entry-p.ensures c.entry-q.ensures c.entry-v.ensures c.entry-w.ensures
