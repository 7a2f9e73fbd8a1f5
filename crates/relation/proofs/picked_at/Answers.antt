-- Four numbers, each of which has its entries.
use Rattle.relation.proofs.PackedLaws.{picked_four}
use Rattle.relation.proofs.picked_at.Goals as goal

pub returns : goal.returns
returns g c = rw c.picked.ensures (picked_four _ _ _ _ _ _ _ c.four_at.ensures c.four_at-2.ensures c.four_at-3.ensures c.four_at-4.ensures)
