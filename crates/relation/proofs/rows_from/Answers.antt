-- Relations 0 to 3, 4 to 7 and 8 to 11 of the set, and eq.
use Rattle.relation.proofs.PackedLaws.{rows_are}
use Rattle.relation.proofs.rows_from.Goals as goal

pub returns : goal.returns
returns g c =
    rw c.where_eq.ensures
    (rows_are _ _ _ _ _ _ c.picked_at-first.ensures c.picked_at-second.ensures c.picked_at-third.ensures c.four_at.ensures)
